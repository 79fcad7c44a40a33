-- What a scan finds, in bytes: the answers of the code's parts. Assumes nothing.
--
--   end_at       how long the name is that the bytes begin with; or byte or cut
--   named_at     its number and its bytes, the `>` behind it too; or name
--   word_found   the answer for a word of so many bytes that means a leaf
use Rattle.std.specs.Prelude.{ℕ, ◌+◌, cond, List, ltb, length, Result, Ok, Err}
use Rattle.table.specs.Format.{number_of}
use Rattle.reader.specs.declared.found.Event.TheVariants.{Character}
use Rattle.reader.specs.declared.found.Found.{Found}
use Rattle.reader.specs.declared.found.Refusal.{Refusal}
use Rattle.reader.specs.declared.found.Refusal.TheVariants.{Byte, Name, Cut}
use Rattle.reader.specs.Scan.{Scan, whole, cut, bad}

unfoldable pub end_at : Scan (List ℕ) → Result ℕ Refusal
end_at (whole n) = Ok (length n)
end_at cut = Err Cut
end_at bad = Err Byte

unfoldable pub named_at : List (List ℕ) → Scan (List ℕ) → Result (ℕ × ℕ) Refusal
named_at names (whole n) = cond (ltb (number_of names n) (length names)) (Ok (number_of names n, length n + 1)) (Err Name)
named_at names cut = Err Cut
named_at names bad = Err Byte

unfoldable pub word_found : ℕ → Scan ℕ → Result Found Refusal
word_found k (whole c) = Ok (record { event = Character c; taken = k })
word_found k cut = Err Cut
word_found k bad = Err Byte
