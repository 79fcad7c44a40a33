-- The lookup of a rule's right side in an index. Assumes nothing.
--
--   match_meant  what is matched, of `meaning`, that the code's is
--   side_in      the right side that stands where an index says, cut short where the table ends; whatever the index has
use Rattle.std.specs.Prelude.{ℕ, List}
use Rattle.std.proofs.Math.Seq.{slice}
use Rattle.meaning.specs.Rules.{Match, on_empty, on_element, on_character}
use Rattle.table.specs.declared.lookup.Matched.{Matched}
use Rattle.table.specs.declared.lookup.Matched.TheVariants.{Element, Character, Empty}
use Rattle.table.specs.Index.{rule_in, slot_of, side_from, side_to}

abbrev pub match_meant : Matched → Match
match_meant (Element n) = on_element n
match_meant Character = on_character
match_meant Empty = on_empty

abbrev pub side_in : List ℕ → List ℕ → ℕ → Match → List ℕ
side_in l ix q m = slice (side_from l (rule_in ix q (slot_of m))) (side_to l (rule_in ix q (slot_of m))) l
