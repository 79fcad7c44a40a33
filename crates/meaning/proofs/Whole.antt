-- Whole runs: what is handed out, and what is still held, make up what the log's forest is transformed to. Assumes nothing.
use Prim.Native.Nat.{ℕ, zero, suc}
use mathlib.Core.Path.{◌≡◌, refl, ap, ◌∙◌}
use mathlib.Core.List.{List, [], ◌∷◌, ◌++◌, append_assoc, append-nil}
use native.Mathlib.Omega.{arith}
use lib.ListN.{replicate}
use Rattle.meaning.specs.Denoted.{denoted, denoted_all, to_come}
use Rattle.meaning.specs.Event.{Event, start, char, end, finish, spelled}
use Rattle.meaning.specs.Forest.{start_tag, end_tag, character}
use Rattle.meaning.specs.Held.{Expr, ε, opening, closing, chr, wait, Args, ∅, also, join, argument, instance, step, steps, settled, held, after, handed, blanks, initial}
use Rattle.meaning.specs.Rules.{on_empty, Rhs, done, element, matched, letter, matched_letter, value, call, Table}
use Rattle.meaning.specs.Value.{Sem, meaning, transformed}
use Rattle.meaning.proofs.Kept.{Follows, kept}

denoted-held : (E : ℕ → Sem) (e : Expr) → denoted E e ≡ settled e ++ denoted E (held e)
unfolding denoted settled held
denoted-held E ε = refl
denoted-held E (opening n e) = ap (start_tag n ∷◌) (denoted-held E e)
denoted-held E (closing n e) = ap (end_tag n ∷◌) (denoted-held E e)
denoted-held E (chr c e) = ap (character c ∷◌) (denoted-held E e)
denoted-held E (wait q i es e) = refl

follows : (M : Table) (v : Event) (vs : List Event) → Follows M v (to_come M (v ∷ vs)) (to_come M vs)
unfolding meaning spelled
follows M (start n) vs zero q ws = refl
follows M (start n) vs (suc i) q ws = refl
follows M (char c) vs zero q ws = refl
follows M (char c) vs (suc i) q ws = refl
follows M (end n) vs zero q ws = refl
follows M (end n) vs (suc i) q ws = refl
follows M finish vs i q ws = refl

module _ (M : Table) where
  -- after any events: what is out, and what the rest stands for, is what the beginning stood for
  pub runs : (vs ws : List Event) (e : Expr) → denoted (to_come M (vs ++ ws)) e ≡ handed M vs e ++ denoted (to_come M ws) (after M vs e)
  unfolding handed after
  runs [] ws e = refl
  runs (v ∷ vs) ws e =
      let E = to_come M (vs ++ ws) in
      rw (kept M v (to_come M (v ∷ (vs ++ ws))) E (follows M v (vs ++ ws)) e, denoted-held E (step M v e), runs vs ws (held (step M v e)), append_assoc)

  pub handed-append : (a b : List Event) (e : Expr) → handed M (a ++ b) e ≡ handed M a e ++ handed M b (after M a e)
  unfolding handed after
  handed-append [] b e = refl
  handed-append (v ∷ a) b e = rw (handed-append a b (held (step M v e)), append_assoc)

-- at finish no call is left
abbrev Plain : Args → Type 0
Plain ∅ = Unit {0}
Plain (also e es) = (held e ≡ ε) × Plain es

held-join : (a k : Expr) → held a ≡ ε → held (join a k) ≡ held k
unfolding held join
held-join ε k h = refl
held-join (opening n a) k h = held-join a k h
held-join (closing n a) k h = held-join a k h
held-join (chr c a) k h = held-join a k h
held-join (wait q i es a) k h = let z : ◌≡◌ {A = ℕ} 0 1 = cc in absurd (omega arith)

plain_argument : (es : Args) (j : ℕ) → Plain es → held (argument es j) ≡ ε
unfolding argument held
plain_argument ∅ j h = refl
plain_argument (also e es) zero h = h.0
plain_argument (also e es) (suc j) h = plain_argument es j h.1

held-instance : (vs : Args) → Plain vs → (r : Rhs) (k : Expr) → held (instance finish vs r k) ≡ held k
unfolding held instance
held-instance vs h done k = refl
held-instance vs h (element m b r) k = held-instance vs h b (closing m (instance finish vs r k)) ∙ held-instance vs h r k
held-instance vs h (matched b r) k = held-instance vs h b (closing 0 (instance finish vs r k)) ∙ held-instance vs h r k
held-instance vs h (letter d r) k = held-instance vs h r k
held-instance vs h (matched_letter r) k = held-instance vs h r k
held-instance vs h (value j r) k = held-join (argument vs j) (instance finish vs r k) (plain_argument vs j h) ∙ held-instance vs h r k
held-instance vs h (call x q rs r) k = held-instance vs h r k

module _ (M : Table) where
  mutual
    unfolding held step

    plain_finish : (e : Expr) → held (step M finish e) ≡ ε
    plain_finish ε = refl
    plain_finish (opening n e) = plain_finish e
    plain_finish (closing n e) = plain_finish e
    plain_finish (chr c e) = plain_finish e
    plain_finish (wait q i es e) = held-instance (steps M finish es) (plain_all es) (M.rule q on_empty) (step M finish e) ∙ plain_finish e

    plain_all : (es : Args) → Plain (steps M finish es)
    plain_all ∅ = tt
    plain_all (also e es) = (plain_finish e, plain_all es)

  denoted-blanks : (E : ℕ → Sem) (n : ℕ) → denoted_all E (blanks n) ≡ replicate n []
  unfolding denoted blanks
  denoted-blanks E zero = refl
  denoted-blanks E (suc n) = ap ([] ∷◌) (denoted-blanks E n)

  handed-finish : (vs : List Event) (e : Expr) → handed M (vs ++ (finish ∷ [])) e ≡ denoted (to_come M (vs ++ (finish ∷ []))) e
  unfolding handed after denoted
  handed-finish vs e = rw (runs M vs (finish ∷ []) e, runs M (finish ∷ []) [] (after M vs e), plain_finish (after M vs e), handed-append M vs (finish ∷ []) e) (simp append-nil)

  -- what is handed out over events and a finish is what the forest that they spell is transformed to
  pub whole : (vs : List Event) → handed M (vs ++ (finish ∷ [])) (initial M) ≡ transformed M (spelled (vs ++ (finish ∷ [])) 0)
  unfolding initial transformed denoted
  whole vs = rw (handed-finish, denoted-blanks, append-nil)
