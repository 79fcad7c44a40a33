-- The nesting of tags: the names of the open elements, and which events may come. Assumes nothing.
--
-- Document 01, refusals 6, 7 and 11: "end tag with nothing open, or another name open"; "a 65th open element"; "finish with an
-- element open". proofs/Given.antt: each is given exactly then.
--
--   nested        the open names after an event, the innermost first; or nest, depth or cut
--   meant_event   a reader's event as meaning has it
--   ended         what finish answers: nothing, or the refusal
--   read_nested   the open names after the first event in bytes: 4, 11 and 5 come before 6 and 7
use Rattle.std.specs.Prelude.{ℕ, cond, List, [], ◌∷◌, eqb, ltb, length, Result, Ok, Err, ⊤}
use Rattle.meaning.specs.Event.{Event, start, char, end, finish}
use Rattle.reader.specs.declared.found.Event as found
use Rattle.reader.specs.declared.found.Event.TheVariants.{Start, End, Character}
use Rattle.reader.specs.declared.found.Found.{Found}
use Rattle.reader.specs.declared.found.Refusal.{Refusal}
use Rattle.reader.specs.declared.found.Refusal.TheVariants.{Nest, Depth, Cut}
use Rattle.reader.specs.Read.{read_event}

unfoldable pub nested : List ℕ → Event → Result (List ℕ) Refusal
nested open₁ (start n) = cond (ltb (length open₁) 64) (Ok (n ∷ open₁)) (Err Depth)
nested open₁ (char c) = Ok open₁
nested [] (end n) = Err Nest
nested (m ∷ open₁) (end n) = cond (eqb m n) (Ok open₁) (Err Nest)
nested [] finish = Ok []
nested (m ∷ open₁) finish = Err Cut

abbrev pub meant_event : found.Event → Event
meant_event (Start n) = start n
meant_event (End n) = end n
meant_event (Character c) = char c

abbrev pub ended : Result (List ℕ) Refusal → Result ⊤ Refusal
ended (Ok open₁) = Ok tt
ended (Err r) = Err r

-- the reader's refusals come before the nesting's
abbrev pub nested_of : List ℕ → Result Found Refusal → Result (List ℕ) Refusal
nested_of open₁ (Ok f) = nested open₁ (meant_event f.event)
nested_of open₁ (Err r) = Err r

unfoldable pub read_nested : List (List ℕ) → List ℕ → List ℕ → Result (List ℕ) Refusal
read_nested names open₁ bs = nested_of open₁ (read_event names bs)
