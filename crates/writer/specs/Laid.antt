-- Bytes laid into the output. Assumes nothing.
--
-- Document 01, "The log": "Each event's bytes are written from the first free byte of the output onward; all other bytes stay." "A
-- first free byte past the output's end means that none is free."
--
--   over         l with vs from the place i on, all other bytes as they were
--   has_room     whether vs has room there
--   room         how many bytes vs takes there, or nothing; `laid`: the output then, as it was where vs has no room
--   written_at   the output after tokens that are written one behind the other
use Rattle.std.specs.Prelude.{ℕ, ◌+◌, Bool, cond, List, [], ◌∷◌, ◌++◌, leb, length, take, drop, Option, Some, None}
use Rattle.meaning.specs.Forest.{Stream}
use Rattle.writer.specs.Bytes.{bytes_of}

unfoldable pub over : List ℕ → ℕ → List ℕ → List ℕ
over l i vs = take i l ++ (vs ++ drop (i + length vs) l)

abbrev pub has_room : List ℕ → ℕ → List ℕ → Bool
has_room l i vs = leb (i + length vs) (length l)

unfoldable pub room : List ℕ → ℕ → List ℕ → Option ℕ
room l i vs = cond (has_room l i vs) (Some (length vs)) None

unfoldable pub laid : List ℕ → ℕ → List ℕ → List ℕ
laid l i vs = cond (has_room l i vs) (over l i vs) l

unfoldable pub written_at : List (List ℕ) → Stream → (l : List ℕ) (i : ℕ) → List ℕ
written_at names [] l i = l
written_at names (t ∷ ts) l i = written_at names ts (laid l i (bytes_of names t)) (i + length (bytes_of names t))
