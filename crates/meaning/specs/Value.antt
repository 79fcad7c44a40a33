-- The same meaning with streams for values: what the machine hands out is compared with this. Assumes nothing.
-- proofs/Value.antt: it is the written form of the forest-valued meaning.
--
--   rhs_value    what a right side stands for, written; the parameters are those of `rhs_forest`
--   meaning     `result`, written
--   transformed `image`, written
use Rattle.std.specs.Prelude.{ℕ, List, [], ◌∷◌, ◌++◌, get_or, replicate}
use Rattle.meaning.specs.Forest.{Forest, nil, node, leaf, start_tag, end_tag, character, Stream}
use Rattle.meaning.specs.Rules.{Source, children, siblings, on_empty, on_element, on_character, Rhs, RArgs, done, element, matched, letter, matched_letter, value, call, no_arg, arg, Table}

abbrev pub Sem : Type 0
Sem = ℕ → List Stream → Stream

abbrev pub silent : Sem
silent q vs = []

abbrev pub from : Source → Sem → Sem → Sem
from children k s = k
from siblings k s = s

module _ (n c : ℕ) (k s : Sem) (vs : List Stream) where
  unfoldable mutual
    pub rhs_value : Rhs → Stream
    rhs_value done = []
    rhs_value (element m b r) = start_tag m ∷ (rhs_value b ++ (end_tag m ∷ rhs_value r))
    rhs_value (matched b r) = start_tag n ∷ (rhs_value b ++ (end_tag n ∷ rhs_value r))
    rhs_value (letter d r) = character d ∷ rhs_value r
    rhs_value (matched_letter r) = character c ∷ rhs_value r
    rhs_value (value j r) = get_or vs j [] ++ rhs_value r
    rhs_value (call x q rs r) = from x k s q (rhs_values rs) ++ rhs_value r

    pub rhs_values : RArgs → List Stream
    rhs_values no_arg = []
    rhs_values (arg r rs) = rhs_value r ∷ rhs_values rs

unfoldable pub meaning : Table → Forest → Sem
meaning M nil q vs = rhs_value 0 0 silent silent vs (M.rule q on_empty)
meaning M (node n k s) q vs = rhs_value n 0 (λ p ws. meaning M k p ws) (λ p ws. meaning M s p ws) vs (M.rule q (on_element n))
meaning M (leaf c s) q vs = rhs_value 0 c silent (λ p ws. meaning M s p ws) vs (M.rule q on_character)

unfoldable pub transformed : Table → Forest → Stream
transformed M f = meaning M f 0 (replicate (M.rank 0) [])
