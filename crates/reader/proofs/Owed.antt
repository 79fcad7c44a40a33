-- What `nested` takes, one event after the other, is exactly what a reader owes the machine. Assumes nothing.
--
--   nested-owed, owed-nested   events before a finish that it takes, from nothing open on, are owed; and it takes those that are
--   nested-log, log-nested     the same of whole logs, whose last event is the finish; `log-owed`: they are owed so far, too
--   nested-opened              as many names are open as meaning counts elements, and never more than 64
--   names_known                each open name is the table's
--   owed-accepted, owed-known  so the machine may take them: meaning's `Accepted` and `Known`
--   event-meant                the event of an answer is the one that the nesting is asked about
--   offered-owed, offered-log  this reader with the nesting owes no more: what `read_event` gives and `nested` takes is owed
use Rattle.std.proofs.Common.{◌≡◌, ℕ, suc, ◌<◌, ◌≤◌, refl, sym, ap, ◌∙◌, subst, Bool, true, false, cond, List, [], ◌∷◌, ◌++◌, append_assoc, append-nil, length, T, Result, Ok, Err, arith}
use Rattle.std.proofs.Math.Dec.{eqb, ltb}
use Rattle.std.proofs.Math.Option.{Option, none, some}
use Rattle.std.proofs.lemmas.Bool.{ltb-true, eqb-true, lt-ltb, eq-eqb}
use Rattle.alphabet.specs.Classes.{is_leaf}
use Rattle.meaning.specs.Event.{Event, start, char, end, finish, Matched, opened, Accepted, opened_by}
use Rattle.meaning.specs.Valid.{Vocabulary, Known}
use Rattle.meaning.proofs.Event.{matched-accepted, accepted-first}
use Rattle.reader.specs.declared.found.Event as found
use Rattle.reader.specs.declared.found.Event.TheVariants.{Start, End, Character}
use Rattle.reader.specs.declared.found.Found.{Found}
use Rattle.reader.specs.declared.found.Refusal.{Refusal}
use Rattle.reader.specs.declared.found.Refusal.TheVariants.{Nest, Depth}
use Rattle.reader.specs.Nest.{nested, meant_event}
use Rattle.reader.specs.Owed.{OfTable, AllOfTable, Shallow, Owed, OwedLog, Unfinished, through}
use Rattle.reader.specs.Read.{event_of, read_event}
use Rattle.reader.proofs.Read.{Known as KnownEvent, Sound, read_known}

-- what an event that is taken does to the open names
abbrev Taken : List ℕ → Event → List ℕ → Type 0
Taken o (start n) q = (length o < 64) × (q ≡ n ∷ o)
Taken o (char c) q = q ≡ o
Taken [] (end n) q = ⊥
Taken (m ∷ o) (end n) q = (n ≡ m) × (q ≡ o)
Taken [] finish q = q ≡ []
Taken (m ∷ o) finish q = ⊥

inside : (r : Result (List ℕ) Refusal) → List ℕ → List ℕ
inside (Ok o) d = o
inside (Err r) d = d

same : (a b : List ℕ) → ◌≡◌ {A = Result (List ℕ) Refusal} (Ok a) (Ok b) → a ≡ b
unfolding inside
same a b e = ap (λ (r : Result (List ℕ) Refusal). inside r []) e

nested-taken : (o : List ℕ) (v : Event) (q : List ℕ) → nested o v ≡ Ok q → Taken o v q
unfolding nested
nested-taken o (start n) q e = go (ltb (length o) 64) refl e
  where
    go : (t : Bool) → ltb (length o) 64 ≡ t → cond t (Ok (n ∷ o)) (Err Depth) ≡ Ok q → (length o < 64) × (q ≡ n ∷ o)
    go true h e = (ltb-true (length o) 64 h, sym (same (n ∷ o) q e))
    go false h e = cc
nested-taken o (char c) q e = sym (same o q e)
nested-taken [] (end n) q e = cc
nested-taken (m ∷ o) (end n) q e = go (eqb m n) refl e
  where
    go : (t : Bool) → eqb m n ≡ t → cond t (Ok o) (Err Nest) ≡ Ok q → (n ≡ m) × (q ≡ o)
    go true h e = (sym (eqb-true m n h), sym (same o q e))
    go false h e = cc
nested-taken [] finish q e = sym (same [] q e)
nested-taken (m ∷ o) finish q e = cc

-- the first of the events is taken, and the others after it
split : (r : Result (List ℕ) Refusal) (vs : List Event) (p : List ℕ) → through r vs ≡ Ok p → (q : List ℕ) × (r ≡ Ok q) × (through (Ok q) vs ≡ Ok p)
unfolding through
split (Ok q) vs p e = (q, refl, e)
split (Err r) [] p e = cc
split (Err r) (v ∷ vs) p e = cc

module _ (o : List ℕ) (v : Event) (vs : List Event) (p : List ℕ) (e : through (Ok o) (v ∷ vs) ≡ Ok p) where
  taken_then : (q : List ℕ) × Taken o v q × (through (Ok q) vs ≡ Ok p)
  unfolding through
  taken_then = let s = split (nested o v) vs p e in (s.0, nested-taken o v s.0 s.1, s.2)

-- matched events may come behind those that are taken
taken-matched : (o : List ℕ) (us : List Event) (p : List ℕ) → Unfinished us → through (Ok o) us ≡ Ok p → (behind : List Event) → Matched p behind → Matched o (us ++ behind)
unfolding through
taken-matched o [] p u e behind m = subst (λ (l : List ℕ). Matched l behind) (sym (same o p e)) m
taken-matched o (start n ∷ us) p u e behind m =
    let t = taken_then o (start n) us p e in
    subst (λ (l : List ℕ). Matched l (us ++ behind)) t.1.1 (taken-matched t.0 us p u t.2 behind m)
taken-matched o (char c ∷ us) p u e behind m =
    let t = taken_then o (char c) us p e in
    subst (λ (l : List ℕ). Matched l (us ++ behind)) t.1 (taken-matched t.0 us p u t.2 behind m)
taken-matched [] (end n ∷ us) p u e behind m = absurd (taken_then [] (end n) us p e).1
taken-matched (k ∷ o) (end n ∷ us) p u e behind m =
    let t = taken_then (k ∷ o) (end n) us p e in
    (t.1.0, subst (λ (l : List ℕ). Matched l (us ++ behind)) t.1.1 (taken-matched t.0 us p u t.2 behind m))
taken-matched o (finish ∷ us) p u e behind m = absurd u

-- the end tags of the open elements, and the finish
abbrev closing : List ℕ → List Event
closing [] = finish ∷ []
closing (m ∷ o) = end m ∷ closing o

closing_matched : (o : List ℕ) → Matched o (closing o)
closing_matched [] = tt
closing_matched (m ∷ o) = (refl, closing_matched o)

-- how many are open after an event that is taken
taken-opened : (o : List ℕ) (v : Event) (q : List ℕ) → length o ≤ 64 → Taken o v q → (opened (length o) v ≡ length q) × (length q ≤ 64)
taken-opened o (start n) q h t = rw t.1 (refl, omega (arith, t.0))
taken-opened o (char c) q h t = rw t (refl, h)
taken-opened [] (end n) q h t = absurd t
taken-opened (m ∷ o) (end n) q h t = rw t.1 (refl, omega arith)
taken-opened [] finish q h t = rw t (refl, omega arith)
taken-opened (m ∷ o) finish q h t = absurd t

pub nested-opened : (us : List Event) (o p : List ℕ) → length o ≤ 64 → through (Ok o) us ≡ Ok p → (opened_by (length o) us ≡ length p) × (length p ≤ 64)
unfolding through
nested-opened [] o p h e = let s = same o p e in rw (← s) (refl, h)
nested-opened (v ∷ us) o p h e =
    let t = taken_then o v us p e in
    let c = taken-opened o v t.0 h t.1 in
    let r = nested-opened us t.0 p c.1 t.2 in
    (ap (λ (d : ℕ). opened_by d us) c.0 ∙ r.0, r.1)

-- the first of the events that are taken are taken too
through_first : (r : Result (List ℕ) Refusal) (a b : List Event) (p : List ℕ) → through r (a ++ b) ≡ Ok p → (q : List ℕ) × (through r a ≡ Ok q) × (through (Ok q) b ≡ Ok p)
unfolding through
through_first r [] b p e = split r b p e
through_first (Ok o) (v ∷ a) b p e = through_first (nested o v) a b p e
through_first (Err r) (v ∷ a) b p e = cc

through_append : (r : Result (List ℕ) Refusal) (a b : List Event) (q : List ℕ) → through r a ≡ Ok q → through r (a ++ b) ≡ through (Ok q) b
unfolding through
through_append r [] b q e = ap (λ (s : Result (List ℕ) Refusal). through s b) e
through_append (Ok o) (v ∷ a) b q e = through_append (nested o v) a b q e
through_append (Err r) (v ∷ a) b q e = cc

through-shallow : (vs : List Event) (p : List ℕ) → through (Ok []) vs ≡ Ok p → Shallow vs
through-shallow vs p e first behind s =
    let t = through_first (Ok []) first behind p (ap (through (Ok [])) (sym s) ∙ e) in
    let c = nested-opened first [] t.0 (omega arith) t.1 in
    omega (arith, c.0, c.1)

-- matched events that are not too deep are taken
matched-taken : (o : List ℕ) (us behind : List Event) → Unfinished us → Matched o (us ++ behind)
    → ((first rest : List Event) → us ≡ first ++ rest → opened_by (length o) first ≤ 64) → (q : List ℕ) × (through (Ok o) us ≡ Ok q) × Matched q behind
unfolding through nested
matched-taken o [] behind u m s = (o, refl, m)
matched-taken o (start n ∷ us) behind u m s =
    let d : suc (length o) ≤ 64 = s (start n ∷ []) us refl in
    let r = matched-taken (n ∷ o) us behind u m (λ a b e. s (start n ∷ a) b (ap (start n ∷◌) e)) in
    (r.0, rw (lt-ltb (length o) 64 (omega (arith, d))) r.1, r.2)
matched-taken o (char c ∷ us) behind u m s = matched-taken o us behind u m (λ a b e. s (char c ∷ a) b (ap (char c ∷◌) e))
matched-taken [] (end n ∷ us) behind u m s = absurd m
matched-taken (k ∷ o) (end n ∷ us) behind u m s =
    let r = matched-taken o us behind u m.1 (λ a b e. s (end n ∷ a) b (ap (end n ∷◌) e)) in
    (r.0, rw (eq-eqb k n (sym m.0)) r.1, r.2)
matched-taken o (finish ∷ us) behind u m s = absurd u

-- matched events end with the finish, and have no other
matched_log : (o : List ℕ) (vs : List Event) → Matched o vs → (us : List Event) × (vs ≡ us ++ (finish ∷ [])) × Unfinished us
matched_log o [] m = absurd m
matched_log o (start n ∷ vs) m = let r = matched_log (n ∷ o) vs m in (start n ∷ r.0, ap (start n ∷◌) r.1, r.2)
matched_log o (char c ∷ vs) m = let r = matched_log o vs m in (char c ∷ r.0, ap (char c ∷◌) r.1, r.2)
matched_log [] (end n ∷ vs) m = absurd m
matched_log (k ∷ o) (end n ∷ vs) m = let r = matched_log o vs m.1 in (end n ∷ r.0, ap (end n ∷◌) r.1, r.2)
matched_log [] (finish ∷ []) m = ([], refl, tt)
matched_log [] (finish ∷ v ∷ vs) m = absurd m
matched_log (k ∷ o) (finish ∷ vs) m = absurd m

-- of the open names and the finish
finish_none : (q : List ℕ) → Matched q (finish ∷ []) → q ≡ []
finish_none [] m = refl
finish_none (k ∷ q) m = absurd m

finish_taken : (q p : List ℕ) → through (Ok q) (finish ∷ []) ≡ Ok p → Matched q (finish ∷ [])
unfolding through nested
finish_taken [] p e = tt
finish_taken (k ∷ q) p e = cc

all_finish : (names : ℕ) (us : List Event) → AllOfTable names us → AllOfTable names (us ++ (finish ∷ []))
all_finish names [] k = (tt, tt)
all_finish names (v ∷ us) k = (k.0, all_finish names us k.1)

module _ (names : ℕ) where
  pub nested-owed : (us : List Event) → AllOfTable names us → Unfinished us → (o : List ℕ) → through (Ok []) us ≡ Ok o → Owed names us
  nested-owed us k u o e = record {
    known = k;
    begun = (closing o, taken-matched [] us o u e (closing o) (closing_matched o));
    shallow = through-shallow us o e;
  }

  pub owed-nested : (us : List Event) → Unfinished us → Owed names us → (o : List ℕ) × (through (Ok []) us ≡ Ok o)
  owed-nested us u w = let r = matched-taken [] us w.begun.0 u w.begun.1 w.shallow in (r.0, r.1)

  pub nested-log : (us : List Event) → AllOfTable names us → Unfinished us → (o : List ℕ) → through (Ok []) (us ++ (finish ∷ [])) ≡ Ok o → OwedLog names (us ++ (finish ∷ []))
  nested-log us k u o e =
      let f = through_first (Ok []) us (finish ∷ []) o e in
      record {
        known = all_finish names us k;
        matched = taken-matched [] us f.0 u f.1 (finish ∷ []) (finish_taken f.0 o f.2);
        shallow = through-shallow (us ++ (finish ∷ [])) o e;
      }

  pub log-nested : (vs : List Event) → OwedLog names vs → through (Ok []) vs ≡ Ok []
  unfolding through nested
  log-nested vs w =
      let l = matched_log [] vs w.matched in
      let r = matched-taken [] l.0 (finish ∷ []) l.2 (subst (Matched []) l.1 w.matched) (λ a b e. w.shallow a (b ++ (finish ∷ [])) (l.1 ∙ ap (◌++ (finish ∷ [])) e ∙ append_assoc a b (finish ∷ []))) in
      ap (through (Ok [])) l.1 ∙ through_append (Ok []) l.0 (finish ∷ []) r.0 r.1 ∙ ap (λ (q : List ℕ). through (Ok q) (finish ∷ [])) (finish_none r.0 r.2)

  -- a whole log that is owed is owed up to each of its events
  pub log-owed : (vs : List Event) → OwedLog names vs → Owed names vs
  log-owed vs w = record {
    known = w.known;
    begun = ([], subst (Matched []) (sym (append-nil vs)) w.matched);
    shallow = w.shallow;
  }

  -- each open name is the table's
  abbrev pub AllNames : List ℕ → Type 0
  AllNames [] = Unit {0}
  AllNames (n ∷ ns) = (n < names) × AllNames ns

  taken-names : (o : List ℕ) (v : Event) (q : List ℕ) → AllNames o → OfTable names v → Taken o v q → AllNames q
  taken-names o (start n) q a k t = subst AllNames (sym t.1) (k, a)
  taken-names o (char c) q a k t = subst AllNames (sym t) a
  taken-names [] (end n) q a k t = absurd t
  taken-names (m ∷ o) (end n) q a k t = subst AllNames (sym t.1) a.1
  taken-names [] finish q a k t = subst AllNames (sym t) a
  taken-names (m ∷ o) finish q a k t = absurd t

  pub names_known : (us : List Event) (o p : List ℕ) → AllNames o → AllOfTable names us → through (Ok o) us ≡ Ok p → AllNames p
  unfolding through
  names_known [] o p a k e = subst AllNames (same o p e) a
  names_known (v ∷ us) o p a k e = let t = taken_then o v us p e in names_known us t.0 p (taken-names o v t.0 a k.0 t.1) k.1 t.2

  pub owed-accepted : (vs : List Event) → Owed names vs → Accepted 0 vs
  owed-accepted vs w = accepted-first 0 vs w.begun.0 (matched-accepted [] (vs ++ w.begun.0) w.begun.1)

-- an event of the table is known to a vocabulary with as many names and these leaves
pub owed-known : (K : Vocabulary) → ((c : ℕ) → T (is_leaf c) → T (K.is_leaf c)) → (v : Event) → OfTable K.names v → Known K v
owed-known K l (start n) k = k
owed-known K l (char c) k = l c k
owed-known K l (end n) k = tt
owed-known K l finish k = tt

-- what the reader says of an answer's event is the event that the nesting is asked about
pub event-meant : (f : Found) → event_of (Ok f) ≡ some (meant_event f.event)
event-meant f = go f.event
  where
    go : (v : found.Event) → elim v [ Start n ↦ some (start n) | End n ↦ some (end n) | Character c ↦ some (char c) ] ≡ some (meant_event v)
    go (Start n) = refl
    go (End n) = refl
    go (Character c) = refl

some_same : (v w : Event) → some v ≡ some w → v ≡ w
some_same v w e = ap (λ (o : Option Event). elim o [ none ↦ v | some u ↦ u ]) e

unfinished_more : (v : Event) (vs : List Event) → Unfinished (v ∷ []) → Unfinished vs → Unfinished (v ∷ vs)
unfinished_more (start n) vs u w = w
unfinished_more (char c) vs u w = w
unfinished_more (end n) vs u w = w
unfinished_more finish vs u w = absurd u

module _ (names : List (List ℕ)) where
  meant-of_table : (v : found.Event) → KnownEvent names v → OfTable (length names) (meant_event v) × Unfinished (meant_event v ∷ [])
  meant-of_table (Start n) k = (k, tt)
  meant-of_table (End n) k = (k, tt)
  meant-of_table (Character c) k = (k, tt)

  answered-of_table : (r : Result Found Refusal) (v : Event) → Sound names r → event_of r ≡ some v → OfTable (length names) v × Unfinished (v ∷ [])
  answered-of_table (Err r) v s e = cc
  answered-of_table (Ok f) v s e =
      let m : meant_event f.event ≡ v = some_same (meant_event f.event) v (sym (event-meant f) ∙ e) in
      subst (λ (w : Event). OfTable (length names) w × Unfinished (w ∷ [])) m (meant-of_table f.event s)

  -- each of the events is the first in some bytes
  abbrev pub Offered : List Event → Type 0
  Offered [] = Unit {0}
  Offered (v ∷ vs) = ((bs : List ℕ) × (event_of (read_event names bs) ≡ some v)) × Offered vs

  pub offered-of_table : (us : List Event) → Offered us → AllOfTable (length names) us × Unfinished us
  offered-of_table [] w = (tt, tt)
  offered-of_table (v ∷ us) w =
      let a = answered-of_table (read_event names w.0.0) v (read_known names w.0.0) w.0.1 in
      let r = offered-of_table us w.1 in
      ((a.0, r.0), unfinished_more v us a.1 r.1)

  pub offered-owed : (us : List Event) → Offered us → (o : List ℕ) → through (Ok []) us ≡ Ok o → Owed (length names) us
  offered-owed us w o e = let k = offered-of_table us w in nested-owed (length names) us k.0 k.1 o e

  pub offered-log : (us : List Event) → Offered us → (o : List ℕ) → through (Ok []) (us ++ (finish ∷ [])) ≡ Ok o → OwedLog (length names) (us ++ (finish ∷ []))
  offered-log us w o e = let k = offered-of_table us w in nested-log (length names) us k.0 k.1 o e
