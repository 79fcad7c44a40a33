-- A right side tallied item by item, as the code does it. Assumes nothing.
--
--   ends        the ends owed after an item, with d owed before it; nothing where it is an end that is not owed
--   tallied     a tally with one item more; nothing where the item may not stand there
--   verdict     what the end of a right side comes to, with d ends owed, s words, and `over`
--   refusal_number   document 01's number of a refusal
--   number      of an answer: 0 of acceptance
use Rattle.std.specs.Prelude.{ℕ, ◌+◌, Bool, cond, ◌&&◌, ◌||◌, List, eqb, ltb, Option, None, Some, Result, Ok, Err}
use Rattle.table.specs.Side as side
use Rattle.table.specs.declared.refusal.Refusal.{Refusal}
use Rattle.table.specs.declared.refusal.Refusal.TheVariants.{Form, Limit, Rule}
use Rattle.table.specs.declared.side.Tally.{Tally}

abbrev pub ends : List ℕ → side.Item → ℕ → Option ℕ
ends ranks i d = cond (side.due ranks i d) (Some (side.owed ranks i d)) None

abbrev pub tallied : ℕ → List ℕ → (p n : ℕ) → Tally → side.Item → Option Tally
tallied names ranks p n t i =
    cond (side.allowed names ranks p n i && side.due ranks i t.owed)
    (Some (record { owed = side.owed ranks i t.owed; words = t.words + side.words ranks i; over = t.over || ltb 8 (side.owed ranks i t.owed) }))
    None

abbrev pub verdict : (d s : ℕ) → Bool → ℕ
verdict d s over = cond (eqb d 0) (cond (over || ltb 64 s) 2 0) 3

abbrev pub refusal_number : Refusal → ℕ
refusal_number Form = 1
refusal_number Limit = 2
refusal_number Rule = 3

abbrev pub number : {A : Type 0} → Result A Refusal → ℕ
number (Ok x) = 0
number (Err r) = refusal_number r
