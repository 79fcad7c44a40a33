-- What the code reads of a word: what the word says, in the code's own types. Assumes nothing.
--
--   read_as     an item at a word w: the code's item, or `NoItem w` where the word says nothing
--   read_word   of any word
use Rattle.std.specs.Prelude.{ℕ, Result, Ok, Err}
use Rattle.held.specs.declared.word.Item.{Item as Read}
use Rattle.held.specs.declared.word.Item.TheVariants.{Start, End, Character, Call, Close}
use Rattle.held.specs.declared.word.NoItem.{NoItem}
use Rattle.held.specs.Words.{Item, start_item, end_item, char_item, call_item, close_item, no_item, item_of}

abbrev pub read_as : ℕ → Item → Result Read NoItem
read_as w (start_item n) = Ok (Start n)
read_as w (end_item n) = Ok (End n)
read_as w (char_item c) = Ok (Character c)
read_as w (call_item q l) = Ok (Call q l)
read_as w close_item = Ok Close
read_as w no_item = Err (record { 0 = w })

abbrev pub read_word : ℕ → Result Read NoItem
read_word w = read_as w (item_of w)
