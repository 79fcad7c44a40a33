-- The answer of the reader: the first event in bytes with the table's names, or 4, 11, 5. Assumes nothing.
--
-- Document 01, "The log": "the first event in them is taken and the answer says how many bytes it took"; refusals 4, 5 and 11.
--
--   refusal_number   document 01's number of a refusal
--   number           document 01's number of an answer: 0 for an event
--   taken            how many bytes were taken: 0 of a refusal
--   event_of         the event of an answer, where it is one
--   named            the answer for a name: 5 where it is none of the names
--   found_of         the answer for a form
--   answered         the answer for what a scan finds
--   read_event       the answer for bytes
use Rattle.std.specs.Prelude.{ℕ, cond, List, ltb, length, Result, Ok, Err}
use Rattle.std.proofs.Math.Option.{Option, none, some}
use Rattle.meaning.specs.Event.{Event, start, char, end}
use Rattle.table.specs.Format.{number_of}
use Rattle.reader.specs.declared.found.Event.TheVariants.{Start, End, Character}
use Rattle.reader.specs.declared.found.Found.{Found}
use Rattle.reader.specs.declared.found.Refusal.{Refusal}
use Rattle.reader.specs.declared.found.Refusal.TheVariants.{Byte, Name, Nest, Depth, Cut}
use Rattle.reader.specs.Form.{Form, start_of, end_of, text_of, ref_of, meant, spelling}
use Rattle.reader.specs.Scan.{Scan, whole, cut, bad, scan}

abbrev pub refusal_number : Refusal → ℕ
refusal_number Byte = 4
refusal_number Name = 5
refusal_number Nest = 6
refusal_number Depth = 7
refusal_number Cut = 11

abbrev pub number : Result Found Refusal → ℕ
number (Ok f) = 0
number (Err r) = refusal_number r

abbrev pub taken : Result Found Refusal → ℕ
taken (Ok f) = f.taken
taken (Err r) = 0

abbrev pub event_of : Result Found Refusal → Option Event
event_of (Ok f) = elim f.event [ Start n ↦ some (start n) | End n ↦ some (end n) | Character c ↦ some (char c) ]
event_of (Err r) = none

-- a name's number, where it is one of the names
abbrev pub named : List (List ℕ) → List ℕ → (ℕ → Found) → Result Found Refusal
named names n found = cond (ltb (number_of names n) (length names)) (Ok (found (number_of names n))) (Err Name)

unfoldable pub found_of : List (List ℕ) → Form → Result Found Refusal
found_of names (start_of n) = named names n (λ m. record { event = Start m; taken = length (spelling (start_of n)) })
found_of names (end_of n) = named names n (λ m. record { event = End m; taken = length (spelling (end_of n)) })
found_of names (text_of b) = Ok (record { event = Character b; taken = 1 })
found_of names (ref_of r) = Ok (record { event = Character (meant r); taken = length (spelling (ref_of r)) })

unfoldable pub answered : List (List ℕ) → Scan Form → Result Found Refusal
answered names (whole f) = found_of names f
answered names cut = Err Cut
answered names bad = Err Byte

unfoldable pub read_event : List (List ℕ) → List ℕ → Result Found Refusal
read_event names bs = answered names (scan bs)
