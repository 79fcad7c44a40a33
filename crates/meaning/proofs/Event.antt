-- Events and the forest that they spell undo each other: `spelled-log`, `log-spelled`. Assumes nothing.
use Prim.Native.Nat.{ℕ, suc}
use mathlib.Core.Path.{◌≡◌, refl, ap, ap₂, ◌∙◌}
use mathlib.Core.List.{List, [], ◌∷◌, ◌++◌, append_assoc}
use native.Mathlib.Omega.{arith}
use lib.ListN.{length}
use Rattle.meaning.specs.Event.{Event, start, char, end, finish, events, log, spelled, Matched, opened, Accepted}
use Rattle.meaning.specs.Forest.{Forest, nil, node, leaf}

spelled_skip : (f : Forest) (vs : List Event) (i : ℕ) → spelled (events f ++ vs) (suc i) ≡ spelled vs (suc i)
unfolding spelled events
spelled_skip nil vs i = refl
spelled_skip (node n k s) vs i = rw (append_assoc, spelled_skip k (end n ∷ (events s ++ vs)) (suc i)) (spelled_skip s vs i)
spelled_skip (leaf c s) vs i = spelled_skip s vs i

spelled-events : (f : Forest) (vs : List Event) → spelled vs 0 ≡ nil → spelled (events f ++ vs) 0 ≡ f
unfolding spelled events
spelled-events nil vs h = h
spelled-events (node n k s) vs h =
    ap (λ (l : List Event). node n (spelled l 0) (spelled l 1)) (append_assoc (events k) (end n ∷ events s) vs)
    ∙ ap₂ (node n) (spelled-events k (end n ∷ (events s ++ vs)) refl) (spelled_skip k (end n ∷ (events s ++ vs)) 0 ∙ spelled-events s vs h)
spelled-events (leaf c s) vs h = ap (leaf c) (spelled-events s vs h)

-- a forest's log spells the forest
pub spelled-log : (f : Forest) → spelled (log f) 0 ≡ f
unfolding log spelled
spelled-log f = spelled-events f (finish ∷ []) refl

-- the events of forests by level, with the open names' ε tags between them
back : List ℕ → (ℕ → Forest) → List Event
back [] F = events (F 0) ++ (finish ∷ [])
back (m ∷ st) F = events (F 0) ++ (end m ∷ back st (λ i. F (suc i)))

matched_back : (st : List ℕ) (vs : List Event) → Matched st vs → back st (spelled vs) ≡ vs
unfolding back spelled events
matched_back st [] h = absurd h
matched_back [] (start n ∷ vs) h = ap (start n ∷◌) (append_assoc (events (spelled vs 0)) _ _ ∙ matched_back (n ∷ []) vs h)
matched_back (m ∷ st) (start n ∷ vs) h = ap (start n ∷◌) (append_assoc (events (spelled vs 0)) _ _ ∙ matched_back (n ∷ m ∷ st) vs h)
matched_back [] (char c ∷ vs) h = ap (char c ∷◌) (matched_back [] vs h)
matched_back (m ∷ st) (char c ∷ vs) h = ap (char c ∷◌) (matched_back (m ∷ st) vs h)
matched_back [] (end n ∷ vs) h = absurd h
matched_back (m ∷ st) (end n ∷ vs) h = rw h.0 (ap (end m ∷◌) (matched_back st vs h.1))
matched_back [] (finish ∷ []) h = refl
matched_back [] (finish ∷ v ∷ vs) h = absurd h
matched_back (m ∷ st) (finish ∷ vs) h = absurd h

-- a well-nested log is the log of the forest that it spells
pub log-spelled : (vs : List Event) → Matched [] vs → log (spelled vs 0) ≡ vs
unfolding log back
log-spelled vs h = matched_back [] vs h

-- a well-nested log is accepted, and so are its first events
pub matched-accepted : (st : List ℕ) (vs : List Event) → Matched st vs → Accepted (length st) vs
matched-accepted st [] h = tt
matched-accepted st (start n ∷ vs) h = (tt, matched-accepted (n ∷ st) vs h)
matched-accepted st (char c ∷ vs) h = (tt, matched-accepted st vs h)
matched-accepted [] (end n ∷ vs) h = absurd h
matched-accepted (m ∷ st) (end n ∷ vs) h = (omega arith, matched-accepted st vs h.1)
matched-accepted [] (finish ∷ []) h = (refl, tt)
matched-accepted [] (finish ∷ v ∷ vs) h = absurd h
matched-accepted (m ∷ st) (finish ∷ vs) h = absurd h

pub accepted-first : (d : ℕ) (a b : List Event) → Accepted d (a ++ b) → Accepted d a
accepted-first d [] b h = tt
accepted-first d (v ∷ a) b h = (h.0, accepted-first (opened d v) a b h.1)
