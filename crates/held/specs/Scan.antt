-- Which words are a held expression of a table: the words' part of refusal 13. Assumes nothing.
--
-- Document 01: "a held expression for this table, beginning with a call or empty, levels 1 to open elements + 1". K has the
-- table's names, states and leaf characters, d is the number of open elements.
--
--   fits        an item may stand where n ends of arguments are owed: a known name, a leaf character, a known state at a level
--               from 1 to d + 1, an end that is owed
--   owe         with n ends owed, what is owed after the item: a call owes one for each argument
--   scan        the words fit one after the other, and at their end nothing is owed
--   begins      no words, or a call's first
--   is_held      the words' part of 13
--   Encodes     the same in `meaning`'s terms: the words are those of an expression of the table
use Rattle.std.specs.Prelude.{ℕ, pred, ◌+◌, ◌≡◌, List, [], ◌∷◌, Bool, true, false, ◌&&◌, eqb, ltb, leb}
use Rattle.meaning.specs.Held.{Expr, Begins}
use Rattle.meaning.specs.Valid.{Vocabulary, Valid}
use Rattle.held.specs.Words.{call_kind, flat, kind_of, Item, start_item, end_item, char_item, call_item, close_item, no_item, item_of}

abbrev pub call_fits : Vocabulary → ℕ → ℕ → ℕ → Bool
call_fits K d q l = ltb q K.states && (ltb 0 l && leb l (d + 1))

unfoldable pub fits : Vocabulary → ℕ → Item → ℕ → Bool
fits K d (start_item m) n = ltb m K.names
fits K d (end_item m) n = ltb m K.names
fits K d (char_item c) n = K.is_leaf c
fits K d (call_item q l) n = call_fits K d q l
fits K d close_item n = ltb 0 n
fits K d no_item n = false

unfoldable pub owe : Vocabulary → Item → ℕ → ℕ
owe K (start_item m) n = n
owe K (end_item m) n = n
owe K (char_item c) n = n
owe K (call_item q l) n = K.rank q + n
owe K close_item n = pred n
owe K no_item n = n

unfoldable pub scan : Vocabulary → ℕ → List ℕ → ℕ → Bool
scan K d [] n = eqb n 0
scan K d (w ∷ ws) n = fits K d (item_of w) n && scan K d ws (owe K (item_of w) n)

unfoldable pub begins : List ℕ → Bool
begins [] = true
begins (w ∷ ws) = eqb (kind_of w) call_kind

abbrev pub is_held : Vocabulary → ℕ → List ℕ → Bool
is_held K d ws = begins ws && scan K d ws 0

pub record Encodes (K : Vocabulary) (d : ℕ) (ws : List ℕ) : Type 0 where
  pub expr : Expr
  pub valid : Valid K d expr
  pub first : Begins expr
  pub words : flat expr ≡ ws
