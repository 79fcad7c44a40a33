-- Names and carried values by their places in a table's bytes: how the code finds them, with no copy. Assumes nothing.
--
--   name_at      the bytes of the name whose field begins at a place; no name is longer than 32 bytes, so its length is one byte
--   names_at     the first k names, the first one's field beginning at a place
--   found        the number of a name, where it is one of the names
--   ranks_at     the carried values of n states; each state's field has four bytes, the last one the number
use Rattle.std.specs.Prelude.{ℕ, zero, suc, ◌+◌, cond, List, [], ◌∷◌, ltb, length, get_or, Option, None, Some}
use Rattle.std.proofs.Math.Seq.{slice}
use Rattle.table.specs.Format.{number_of}

unfoldable pub name_at : List ℕ → ℕ → List ℕ
name_at l at = slice (at + 3) (at + 3 + get_or l (at + 2) 0) l

unfoldable pub names_at : List ℕ → (at k : ℕ) → List (List ℕ)
names_at l at zero = []
names_at l at (suc k) = name_at l at ∷ names_at l (at + 3 + get_or l (at + 2) 0) k

abbrev pub found : List (List ℕ) → List ℕ → Option ℕ
found names b = cond (ltb (number_of names b) (length names)) (Some (number_of names b)) None

unfoldable pub ranks_at : List ℕ → (at n : ℕ) → List ℕ
ranks_at l at zero = []
ranks_at l at (suc n) = get_or l (at + 3) 0 ∷ ranks_at l (at + 4) n
