-- What the code reads of a word tells what the word says, and the word itself: nothing is lost. Assumes nothing.
use Rattle.std.proofs.Common.{ℕ, ◌≡◌, Result, Ok, Err, refl, sym, ap, ◌∙◌}
use Rattle.held.specs.declared.word.Item.{Item as Read}
use Rattle.held.specs.declared.word.Item.TheVariants.{Start, End, Character, Call, Close}
use Rattle.held.specs.declared.word.NoItem.{NoItem}
use Rattle.held.specs.Words.{Item, start_item, end_item, char_item, call_item, close_item, no_item, item_of, word_of}
use Rattle.held.specs.Read.{read_as, read_word}
use Rattle.held.proofs.Words.{word_item}

-- the item that was read
abbrev pub said : Result Read NoItem → Item
said (Ok (Start n)) = start_item n
said (Ok (End n)) = end_item n
said (Ok (Character c)) = char_item c
said (Ok (Call q l)) = call_item q l
said (Ok Close) = close_item
said (Err e) = no_item

said-read_as : (w : ℕ) (x : Item) → said (read_as w x) ≡ x
said-read_as w (start_item n) = refl
said-read_as w (end_item n) = refl
said-read_as w (char_item c) = refl
said-read_as w (call_item q l) = refl
said-read_as w close_item = refl
said-read_as w no_item = refl

-- what is read is what the word says
pub item_said : (w : ℕ) (r : Result Read NoItem) → r ≡ read_word w → item_of w ≡ said r
item_said w r h = sym (ap said h ∙ said-read_as w (item_of w))

-- the word that was read
abbrev pub word_said : Result Read NoItem → ℕ
word_said (Ok x) = word_of (said (Ok x))
word_said (Err e) = e.0

word_said-read_as : (w : ℕ) (x : Item) → item_of w ≡ x → word_said (read_as w x) ≡ w
word_said-read_as w (start_item n) h = ap word_of (sym h) ∙ word_item w (λ z. cc)
word_said-read_as w (end_item n) h = ap word_of (sym h) ∙ word_item w (λ z. cc)
word_said-read_as w (char_item c) h = ap word_of (sym h) ∙ word_item w (λ z. cc)
word_said-read_as w (call_item q l) h = ap word_of (sym h) ∙ word_item w (λ z. cc)
word_said-read_as w close_item h = ap word_of (sym h) ∙ word_item w (λ z. cc)
word_said-read_as w no_item h = refl

-- so a word's kind, payload, state and level are those of what is read
pub word_said-read_word : (w : ℕ) → word_said (read_word w) ≡ w
word_said-read_word w = word_said-read_as w (item_of w) refl
