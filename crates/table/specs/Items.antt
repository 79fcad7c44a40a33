-- The items of a right side one by one, as the code reads them. Assumes nothing.
--
--   meant       the item of `Side` that an item of the code is; `source_meant`: the source of document 002
--   told        the item that a first byte tells, from the bytes behind it
--   front       the item that bytes begin with, and the bytes behind it; nothing where they begin with none
use Rattle.std.specs.Prelude.{ℕ, List, [], ◌∷◌, Option, None, Some}
use Rattle.std.proofs.Math.Option as maybe
use Rattle.meaning.specs.Rules as rules
use Rattle.table.specs.Side.{Item, item10, item11, item12, item13, item14, item15, item1F, Kind, is10, is11, is12, is13, is14, is15, is1F, is_none, kind_of, source_of}
use Rattle.table.specs.declared.item.Source as source
use Rattle.table.specs.declared.item.Source.TheVariants.{Children, Siblings}
use Rattle.table.specs.declared.item.Item as code
use Rattle.table.specs.declared.item.Item.TheVariants.{Element, Matched, Letter, MatchedLetter, Value, Call, End}

abbrev pub source_meant : source.Source → rules.Source
source_meant Children = rules.children
source_meant Siblings = rules.siblings

abbrev pub meant : code.Item → Item
meant (Element m) = item10 m
meant Matched = item11
meant (Letter c) = item12 c
meant MatchedLetter = item13
meant (Value j) = item14 j
meant (Call x q) = item15 (source_meant x) q
meant End = item1F

-- an item with one byte more: a name, a character, a carried value
abbrev pub with_one : (ℕ → Item) → List ℕ → Option (Item × List ℕ)
with_one f [] = None
with_one f (x ∷ k) = Some (f x, k)

-- a call with its source and its state
abbrev pub with_source : maybe.Option rules.Source → ℕ → List ℕ → Option (Item × List ℕ)
with_source maybe.none q k = None
with_source (maybe.some x) q k = Some (item15 x q, k)

abbrev pub with_call : List ℕ → Option (Item × List ℕ)
with_call [] = None
with_call (x ∷ []) = None
with_call (x ∷ q ∷ k) = with_source (source_of x) q k

abbrev pub told : Kind → List ℕ → Option (Item × List ℕ)
told is10 k = with_one item10 k
told is11 k = Some (item11, k)
told is12 k = with_one item12 k
told is13 k = Some (item13, k)
told is14 k = with_one item14 k
told is15 k = with_call k
told is1F k = Some (item1F, k)
told is_none k = None

unfoldable pub front : List ℕ → Option (Item × List ℕ)
front [] = None
front (b ∷ k) = told (kind_of b) k
