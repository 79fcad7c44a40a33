-- The bytes of a right side: its items, and whether they may stand. Assumes nothing.
--
-- Document 01, "The rule table": "An item is told by its first byte", the sizes, and the ends owed; refusals 3 and 2.
--
--   Item        an item, named by its first byte: item10 m ("10 name"), item11, item12 c ("12 byte"), item13, item14 j,
--               item15 x q ("15 src state"), and item1F, which ends an element's content or an argument
--   items       the items that bytes spell, `none` where a byte tells no item or source, or the bytes end inside an item
--   allowed     "unknown item, character, source, state, name, carried value ..; item not allowed there", under the pattern p,
--               in a state of n carried values, with so many names, and `ranks` the carried values of each state
--   owed        the ends owed after an item: "a call owes one for each argument not yet ended"
--   closed      neither "cut" nor "over-closed": each end was owed, and none is owed at the end
--   few         "At most 8 ends (1F) are owed at any point"
--   words       the size of an item: "an element 2 and its content; a character 1; a carried value 0; a call of a state with
--               n carried values 1 + n and its arguments"; `words_of` of all items
--   side_number  3, 2 or 0 for the bytes of a right side: every 3 before every 2
use Rattle.std.specs.Prelude.{ℕ, suc, pred, ◌+◌, Bool, true, false, cond, not, ◌&&◌, ◌||◌, List, [], ◌∷◌, eqb, leb, ltb, length, get_or}
use Rattle.std.proofs.Math.Option.{Option, none, some}
use Rattle.alphabet.specs.Classes.{is_leaf}
use Rattle.meaning.specs.Rules.{Source, children, siblings}

pub data Item : Type 0 where
  item10 : ℕ → Item
  item11 : Item
  item12 : ℕ → Item
  item13 : Item
  item14 : ℕ → Item
  item15 : Source → ℕ → Item
  item1F : Item

-- what the next byte is: an item's first, the name of a 10, the character of a 12, the value of a 14, the source of a 15, or
-- the state of a 15
pub data Wants : Type 0 where
  first name10 char12 value14 source15 : Wants
  state15 : Source → Wants

abbrev pub put : Item → Option (List Item) → Option (List Item)
put i none = none
put i (some is) = some (i ∷ is)

-- which item a first byte tells
pub data Kind : Type 0 where
  is10 is11 is12 is13 is14 is15 is1F is_none : Kind

abbrev pub kind_of : ℕ → Kind
kind_of b =
    cond (eqb b 0x10) is10
    (cond (eqb b 0x11) is11
    (cond (eqb b 0x12) is12
    (cond (eqb b 0x13) is13
    (cond (eqb b 0x14) is14
    (cond (eqb b 0x15) is15
    (cond (eqb b 0x1F) is1F
    is_none))))))

-- the item of a first byte; k reads the rest of the bytes
abbrev pub item_from : Kind → (Wants → Option (List Item)) → Option (List Item)
item_from is10 k = k name10
item_from is11 k = put item11 (k first)
item_from is12 k = k char12
item_from is13 k = put item13 (k first)
item_from is14 k = k value14
item_from is15 k = k source15
item_from is1F k = put item1F (k first)
item_from is_none k = none

-- src 01 children, 02 siblings
abbrev pub source_of : ℕ → Option Source
source_of b = cond (eqb b 1) (some children) (cond (eqb b 2) (some siblings) none)

abbrev pub call_from : Option Source → (Source → Option (List Item)) → Option (List Item)
call_from none k = none
call_from (some x) k = k x

unfoldable pub items : List ℕ → Wants → Option (List Item)
items [] first = some []
items [] name10 = none
items [] char12 = none
items [] value14 = none
items [] source15 = none
items [] (state15 x) = none
items (b ∷ bs) first = item_from (kind_of b) (λ w. items bs w)
items (b ∷ bs) name10 = put (item10 b) (items bs first)
items (b ∷ bs) char12 = put (item12 b) (items bs first)
items (b ∷ bs) value14 = put (item14 b) (items bs first)
items (b ∷ bs) source15 = call_from (source_of b) (λ x. items bs (state15 x))
items (b ∷ bs) (state15 x) = put (item15 x b) (items bs first)

-- "the matched element; patterns 01 and 02 only"; "the matched character; pattern 03 only"; "Pattern 00 has no call. Pattern 03
-- calls only siblings."
abbrev pub has_element : ℕ → Bool
has_element p = eqb p 1 || eqb p 2

abbrev pub has_source : ℕ → Source → Bool
has_source p children = has_element p
has_source p siblings = has_element p || eqb p 3

-- the same of a source's byte
abbrev pub has_some : ℕ → Option Source → Bool
has_some p none = false
has_some p (some x) = has_source p x

module _ (names : ℕ) (ranks : List ℕ) (p n : ℕ) where
  abbrev pub allowed : Item → Bool
  allowed (item10 m) = ltb m names
  allowed item11 = has_element p
  allowed (item12 c) = is_leaf c
  allowed item13 = eqb p 3
  allowed (item14 j) = ltb j n
  allowed (item15 x q) = has_source p x && ltb q (length ranks)
  allowed item1F = true

  unfoldable pub all_allowed : List Item → Bool
  all_allowed [] = true
  all_allowed (i ∷ is) = allowed i && all_allowed is

module _ (ranks : List ℕ) where
  abbrev pub owed : Item → ℕ → ℕ
  owed (item10 m) d = suc d
  owed item11 d = suc d
  owed (item12 c) d = d
  owed item13 d = d
  owed (item14 j) d = d
  owed (item15 x q) d = get_or ranks q 0 + d
  owed item1F d = pred d

  -- whether an item may come with d ends owed
  abbrev pub due : Item → ℕ → Bool
  due (item10 m) d = true
  due item11 d = true
  due (item12 c) d = true
  due item13 d = true
  due (item14 j) d = true
  due (item15 x q) d = true
  due item1F d = ltb 0 d

  unfoldable pub closed : List Item → ℕ → Bool
  closed [] d = eqb d 0
  closed (i ∷ is) d = due i d && closed is (owed i d)

  unfoldable pub few : List Item → ℕ → Bool
  few [] d = true
  few (i ∷ is) d = leb (owed i d) 8 && few is (owed i d)

  abbrev pub words : Item → ℕ
  words (item10 m) = 2
  words item11 = 2
  words (item12 c) = 1
  words item13 = 1
  words (item14 j) = 0
  words (item15 x q) = 1 + get_or ranks q 0
  words item1F = 0

  unfoldable pub words_of : List Item → ℕ
  words_of [] = 0
  words_of (i ∷ is) = words i + words_of is

-- with d ends owed, s words before these items, and `over` where more than 8 ends were owed before
module _ (names : ℕ) (ranks : List ℕ) (p n : ℕ) where
  unfoldable pub judged : Option (List Item) → (d s : ℕ) → Bool → ℕ
  judged none d s over = 3
  judged (some is) d s over =
      cond (all_allowed names ranks p n is && closed ranks is d)
      (cond (over || (ltb 64 (s + words_of ranks is) || not (few ranks is d))) 2 0)
      3

  unfoldable pub side_number : List ℕ → ℕ
  side_number bs = judged (items bs first) 0 0 false
