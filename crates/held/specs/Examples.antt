-- Words that are a held expression, and words that are none: one for each clause of refusal 13 about words. Assumes nothing.
--
-- All are judged with one element open and with the names, states and values of a table like Flip: two names, one state, and
-- that state with one carried value.
--
--   flip_like    what the table's expressions may mention
--   flip_words   Flip's held words after `<a>`, as docs/ENCODING.md works them out
--   held_words   words that are a held expression; `other_words`: words that are none
use Rattle.std.specs.Prelude.{ℕ, List, [], ◌∷◌}
use Rattle.alphabet.specs.Classes.{is_leaf}
use Rattle.meaning.specs.Valid.{Vocabulary}

abbrev pub flip_like : Vocabulary
flip_like = record { names = 2; states = 1; rank = λ q. 1; is_leaf = is_leaf }

abbrev pub flip_words : List ℕ
flip_words = 0x40000002 ∷ 0x10000000 ∷ 0x40000001 ∷ 0x50000000 ∷ 0x20000000 ∷ 0x50000000 ∷ []

unfoldable pub held_words : List (List ℕ)
held_words =
    -- nothing; a call at level 1 and at level 2; Flip's after <a>
    [] ∷ (0x40000001 ∷ 0x50000000 ∷ []) ∷ (0x40000002 ∷ 0x50000000 ∷ []) ∷ flip_words
    -- tags need not balance; the last name, and the first and last leaf; a call in an argument
    ∷ (0x40000001 ∷ 0x20000001 ∷ 0x50000000 ∷ 0x10000001 ∷ []) ∷ (0x40000001 ∷ 0x30000009 ∷ 0x3000007E ∷ 0x50000000 ∷ []) ∷ (0x40000001 ∷ 0x40000002 ∷ 0x50000000 ∷ 0x50000000 ∷ [])
    ∷ []

unfoldable pub other_words : List (List ℕ)
other_words =
    -- a tag first, a character first, an argument's end first
    (0x10000000 ∷ []) ∷ (0x30000078 ∷ []) ∷ (0x50000000 ∷ [])
    -- level 0, and in an argument; level 3, and in an argument
    ∷ (0x40000000 ∷ 0x50000000 ∷ []) ∷ (0x40000001 ∷ 0x40000000 ∷ 0x50000000 ∷ 0x50000000 ∷ [])
    ∷ (0x40000003 ∷ 0x50000000 ∷ []) ∷ (0x40000001 ∷ 0x40000003 ∷ 0x50000000 ∷ 0x50000000 ∷ [])
    -- an unknown state; an unknown name, in a start tag and in an end tag
    ∷ (0x40000101 ∷ 0x50000000 ∷ []) ∷ (0x40000001 ∷ 0x50000000 ∷ 0x10000002 ∷ []) ∷ (0x40000001 ∷ 0x50000000 ∷ 0x20000002 ∷ [])
    -- characters that are no leaf: 0, 127, 256
    ∷ (0x40000001 ∷ 0x50000000 ∷ 0x30000000 ∷ []) ∷ (0x40000001 ∷ 0x50000000 ∷ 0x3000007F ∷ []) ∷ (0x40000001 ∷ 0x50000000 ∷ 0x30000100 ∷ [])
    -- a bit more: in a call, a tag, a character, an argument's end
    ∷ (0x40010001 ∷ 0x50000000 ∷ []) ∷ (0x40000001 ∷ 0x50000000 ∷ 0x10000100 ∷ []) ∷ (0x40000001 ∷ 0x50000000 ∷ 0x38000078 ∷ []) ∷ (0x40000001 ∷ 0x50000001 ∷ [])
    -- words of no kind: 0 and 6 to 15
    ∷ (0x40000001 ∷ 0x50000000 ∷ 0 ∷ []) ∷ (0x40000001 ∷ 0x50000000 ∷ 0x60000000 ∷ []) ∷ (0x40000001 ∷ 0x50000000 ∷ 0xF0000000 ∷ []) ∷ (0xC0000001 ∷ 0x50000000 ∷ [])
    -- an argument not ended; ended too often; its call in an argument not ended
    ∷ (0x40000001 ∷ []) ∷ (0x40000001 ∷ 0x50000000 ∷ 0x50000000 ∷ []) ∷ (0x40000001 ∷ 0x40000001 ∷ 0x50000000 ∷ [])
    ∷ []
