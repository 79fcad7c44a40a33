-- What a reader owes the machine, whatever the form of its logs: matched events within the depth. Assumes nothing.
--
-- Document 02, (xii): "State once, over both, what a reader owes the machine: matched start and end events within the depth."
-- The names are those of the table (refusal 5), the characters leaves. proofs/Owed.antt: with `nested`, no more and no less.
--
--   OfTable     the event's name is one of so many, its character a leaf; `AllOfTable`: of each event
--   Begun       the events are the first of a matched log
--   Shallow     after none of the events are more than 64 elements open
--   Owed        events that a reader may hand over, one after the other; `OwedLog`: as a whole log
--   Unfinished  none of the events is the finish
--   through     the open names after the events, each taken by `nested`; or the first refusal
use Rattle.std.specs.Prelude.{ℕ, ◌<◌, ◌≤◌, ◌≡◌, List, [], ◌∷◌, ◌++◌, T, Result, Ok, Err}
use Rattle.alphabet.specs.Classes.{is_leaf}
use Rattle.meaning.specs.Event.{Event, start, char, end, finish, Matched, opened_by}
use Rattle.reader.specs.declared.found.Refusal.{Refusal}
use Rattle.reader.specs.Nest.{nested}

abbrev pub OfTable : ℕ → Event → Type 0
OfTable names (start n) = n < names
OfTable names (char c) = T (is_leaf c)
OfTable names (end n) = n < names
OfTable names finish = Unit {0}

abbrev pub AllOfTable : ℕ → List Event → Type 0
AllOfTable names [] = Unit {0}
AllOfTable names (v ∷ vs) = OfTable names v × AllOfTable names vs

abbrev pub Begun : List Event → Type 0
Begun vs = (behind : List Event) × Matched [] (vs ++ behind)

abbrev pub Shallow : List Event → Type 0
Shallow vs = (first behind : List Event) → vs ≡ first ++ behind → opened_by 0 first ≤ 64

pub record Owed (names : ℕ) (vs : List Event) : Type 0 where
  pub known : AllOfTable names vs
  pub begun : Begun vs
  pub shallow : Shallow vs

pub record OwedLog (names : ℕ) (vs : List Event) : Type 0 where
  pub known : AllOfTable names vs
  pub matched : Matched [] vs
  pub shallow : Shallow vs

abbrev pub Unfinished : List Event → Type 0
Unfinished [] = Unit {0}
Unfinished (start n ∷ vs) = Unfinished vs
Unfinished (char c ∷ vs) = Unfinished vs
Unfinished (end n ∷ vs) = Unfinished vs
Unfinished (finish ∷ vs) = ⊥

unfoldable pub through : Result (List ℕ) Refusal → List Event → Result (List ℕ) Refusal
through r [] = r
through (Ok open₁) (v ∷ vs) = through (nested open₁ v) vs
through (Err r) (v ∷ vs) = Err r
