-- Which two lent areas the machine works on: refusal 12. Assumes nothing.
--
-- Document 01: "The two work areas are 32-bit words, of equal length H"; "H 16 to 8,192"; 12 is "H outside its range or lengths
-- unequal".
--
--   are_areas   of so many words, and so many
use Rattle.std.specs.Prelude.{ℕ, Bool, ◌&&◌, eqb, leb}

abbrev pub are_areas : ℕ → ℕ → Bool
are_areas first second = eqb first second && (leb 16 first && leb first 8192)
