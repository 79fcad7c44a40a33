-- What a table means: document 002, definitions 2 and 3, by recursion on the forest. Assumes nothing.
--
--   rhs_forest   ⟦rhs⟧ρ of definition 2: the forest that a right side stands for. n and c are the matched name and
--               character, k and s what a call does on x1 and on x2, vs the carried values y1, y2, ..
--   result      ⟦q⟧ of definition 2. A character has no children to read (document 01: "Pattern 03 calls only
--               siblings"), the empty list neither children nor siblings: a call there stands for ε.
--   image       τ of definition 3: state 0 on the whole forest, with ε for each carried value
use Rattle.std.specs.Prelude.{ℕ, List, [], ◌∷◌, get_or, replicate}
use Rattle.meaning.specs.Forest.{Forest, nil, node, leaf, beside}
use Rattle.meaning.specs.Rules.{Source, children, siblings, on_empty, on_element, on_character, Rhs, RArgs, done, element, matched, letter, matched_letter, value, call, no_arg, arg, Table}

-- what states and carried values are made into, for one forest
abbrev pub Fun : Type 0
Fun = ℕ → List Forest → Forest

abbrev pub empty : Fun
empty q vs = nil

abbrev pub pick : Source → Fun → Fun → Fun
pick children k s = k
pick siblings k s = s

module _ (n c : ℕ) (k s : Fun) (vs : List Forest) where
  unfoldable mutual
    pub rhs_forest : Rhs → Forest
    rhs_forest done = nil
    rhs_forest (element m b r) = node m (rhs_forest b) (rhs_forest r)
    rhs_forest (matched b r) = node n (rhs_forest b) (rhs_forest r)
    rhs_forest (letter d r) = leaf d (rhs_forest r)
    rhs_forest (matched_letter r) = leaf c (rhs_forest r)
    rhs_forest (value j r) = beside (get_or vs j nil) (rhs_forest r)
    rhs_forest (call x q rs r) = beside (pick x k s q (rhs_forests rs)) (rhs_forest r)

    pub rhs_forests : RArgs → List Forest
    rhs_forests no_arg = []
    rhs_forests (arg r rs) = rhs_forest r ∷ rhs_forests rs

unfoldable pub result : Table → Forest → Fun
result M nil q vs = rhs_forest 0 0 empty empty vs (M.rule q on_empty)
result M (node n k s) q vs = rhs_forest n 0 (λ p ws. result M k p ws) (λ p ws. result M s p ws) vs (M.rule q (on_element n))
result M (leaf c s) q vs = rhs_forest 0 c empty (λ p ws. result M s p ws) vs (M.rule q on_character)

unfoldable pub image : Table → Forest → Forest
image M f = result M f 0 (replicate (M.rank 0) nil)
