-- Held expressions as 32-bit words. Assumes nothing.
--
-- Document 01, "The held expression": "One word per unit of size; each expression has one encoding". A word is its kind times
-- 2^28, and its payload; all other bits are 0. A call is its word and then its arguments, each closed by a word of its own.
--
--   start_kind, end_kind, char_kind, call_kind, close_kind   a start tag, an end tag, a character, a call, the end of an argument
--   start_word, end_word, char_word, call_word, close_word   the word of each: a tag's payload is its name's number, a character's
--               the character, a call's its state times 256 and its level, 1 and more; the end of an argument has none
--   flat        the words of an expression; `flats` those of arguments. A call that waits for i end tags has level i + 1
--   kind_of, payload_of, state_of, level_of   a word taken apart
--   Item        what a word says; `item_of`: of any word, `no_item` where it says nothing; `word_of`: back
--   Room        the numbers of a vocabulary, with d elements open, have room in a word
--   expr_at      the expression that stands after i ends of arguments: any words can be read, and need no bound to go by
use Rattle.std.specs.Prelude.{ℕ, zero, suc, pred, ◌+◌, ◌*◌, ◌/◌, ◌%◌, ◌≤◌, ◌<◌, List, [], ◌∷◌, ◌++◌, cond, T, eqb}
use Rattle.meaning.specs.Held.{Expr, Args, ε, opening, closing, chr, wait, ∅, also}
use Rattle.meaning.specs.Valid.{Vocabulary}

abbrev pub payloads : ℕ
payloads = 268435456

abbrev pub levels : ℕ
levels = 256

abbrev pub start_kind : ℕ
start_kind = 1

abbrev pub end_kind : ℕ
end_kind = 2

abbrev pub char_kind : ℕ
char_kind = 3

abbrev pub call_kind : ℕ
call_kind = 4

abbrev pub close_kind : ℕ
close_kind = 5

unfoldable pub start_word : ℕ → ℕ
start_word n = start_kind * payloads + n

unfoldable pub end_word : ℕ → ℕ
end_word n = end_kind * payloads + n

unfoldable pub char_word : ℕ → ℕ
char_word c = char_kind * payloads + c

unfoldable pub call_word : ℕ → ℕ → ℕ
call_word q l = call_kind * payloads + (q * levels + l)

abbrev pub close_word : ℕ
close_word = close_kind * payloads

pub record Room (K : Vocabulary) (d : ℕ) : Type 0 where
  pub names : K.names ≤ payloads
  pub states : K.states * levels ≤ payloads
  pub leaves : (c : ℕ) → T (K.is_leaf c) → c < payloads
  pub deep : d + 1 < levels

unfoldable mutual
  pub flat : Expr → List ℕ
  flat ε = []
  flat (opening n e) = start_word n ∷ flat e
  flat (closing n e) = end_word n ∷ flat e
  flat (chr c e) = char_word c ∷ flat e
  flat (wait q i es e) = call_word q (suc i) ∷ (flats es ++ flat e)

  pub flats : Args → List ℕ
  flats ∅ = []
  flats (also e es) = flat e ++ (close_word ∷ flats es)

abbrev pub kind_of : ℕ → ℕ
kind_of w = w / payloads

abbrev pub payload_of : ℕ → ℕ
payload_of w = w % payloads

abbrev pub state_of : ℕ → ℕ
state_of w = w % payloads / levels

abbrev pub level_of : ℕ → ℕ
level_of w = w % levels

pub data Item : Type 0 where
  start_item : ℕ → Item
  end_item : ℕ → Item
  char_item : ℕ → Item
  call_item : ℕ → ℕ → Item
  close_item : Item
  no_item : Item

unfoldable pub item_of : ℕ → Item
item_of w =
    cond (eqb w close_word) close_item
    (cond (eqb (kind_of w) call_kind) (call_item (state_of w) (level_of w))
    (cond (eqb (kind_of w) start_kind) (start_item (payload_of w))
    (cond (eqb (kind_of w) end_kind) (end_item (payload_of w))
    (cond (eqb (kind_of w) char_kind) (char_item (payload_of w))
    no_item))))

abbrev pub word_of : Item → ℕ
word_of (start_item n) = start_word n
word_of (end_item n) = end_word n
word_of (char_item c) = char_word c
word_of (call_item q l) = call_word q l
word_of close_item = close_word
word_of no_item = 0

-- n arguments, the i-th of which is f i
unfoldable pub args_from : ℕ → (ℕ → Expr) → Args
args_from zero f = ∅
args_from (suc n) f = also (f 0) (args_from n (λ i. f (suc i)))

-- one word in front of words that are read as f: rank says how many arguments a state's call has
unfoldable pub read_item : (ℕ → ℕ) → Item → (ℕ → Expr) → ℕ → Expr
read_item rank (start_item n) f zero = opening n (f 0)
read_item rank (start_item n) f (suc i) = f (suc i)
read_item rank (end_item n) f zero = closing n (f 0)
read_item rank (end_item n) f (suc i) = f (suc i)
read_item rank (char_item c) f zero = chr c (f 0)
read_item rank (char_item c) f (suc i) = f (suc i)
read_item rank (call_item q l) f zero = wait q (pred l) (args_from (rank q) f) (f (rank q))
read_item rank (call_item q l) f (suc i) = f (rank q + suc i)
read_item rank close_item f zero = ε
read_item rank close_item f (suc i) = f i
read_item rank no_item f i = f i

unfoldable pub expr_at : (ℕ → ℕ) → List ℕ → ℕ → Expr
expr_at rank [] i = ε
expr_at rank (w ∷ ws) i = read_item rank (item_of w) (λ j. expr_at rank ws j) i
