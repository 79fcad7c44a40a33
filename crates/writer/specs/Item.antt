-- What the code writes: a tag with its name's bytes, or a character. Assumes nothing.
--
--   item_form    how an item is written
--   item_bytes   its bytes
--   Says         an item is a token: its name is the token's, in the names of the table
use Rattle.std.specs.Prelude.{ℕ, ◌≡◌, List, [], get_or}
use Rattle.meaning.specs.Forest.{Token, start_tag, end_tag, character}
use Rattle.reader.specs.Form.{Form, start_of, end_of, spelling}
use Rattle.writer.specs.declared.Item.{Item}
use Rattle.writer.specs.declared.Item.TheVariants.{Start, End, Character}
use Rattle.writer.specs.Bytes.{leaf_form}

abbrev pub item_form : Item → Form
item_form (Start name) = start_of name.now
item_form (End name) = end_of name.now
item_form (Character c) = leaf_form c

unfoldable pub item_bytes : Item → List ℕ
item_bytes i = spelling (item_form i)

abbrev pub Says : List (List ℕ) → Item → Token → Type 0
Says names (Start name) (start_tag n) = name.now ≡ get_or names n []
Says names (Start name) (end_tag n) = ⊥
Says names (Start name) (character d) = ⊥
Says names (End name) (start_tag n) = ⊥
Says names (End name) (end_tag n) = name.now ≡ get_or names n []
Says names (End name) (character d) = ⊥
Says names (Character c) (start_tag n) = ⊥
Says names (Character c) (end_tag n) = ⊥
Says names (Character c) (character d) = c ≡ d
