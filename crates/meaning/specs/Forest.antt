-- Forests, and their written form as a stream of tags and characters. Assumes nothing.
--
-- Document 01, "The log": a log is a forest, elements and character leaves in sequence, possibly empty.
-- Document 002, section 2: forests f ::= ε | σ⟨f⟩f, and the streaming [_] of a forest. A character leaf is document 01's:
-- a tree without children that is no element.
--
--   Forest      a forest: its first tree, and what stands after that tree
--   beside      one forest behind another
--   Token       a start tag, an end tag or a character; names and characters are numbers
--   Stream      tokens in sequence
--   written     the written form of a forest: 002's streaming [_]
use Rattle.std.specs.Prelude.{ℕ, List, [], ◌∷◌, ◌++◌}

pub data Forest : Type 0 where
  nil : Forest
  node : ℕ → Forest → Forest → Forest
  leaf : ℕ → Forest → Forest

unfoldable pub beside : Forest → Forest → Forest
beside nil g = g
beside (node n k s) g = node n k (beside s g)
beside (leaf c s) g = leaf c (beside s g)

pub data Token : Type 0 where
  start_tag : ℕ → Token
  end_tag : ℕ → Token
  character : ℕ → Token

abbrev pub Stream : Type 0
Stream = List Token

unfoldable pub written : Forest → Stream
written nil = []
written (node n k s) = start_tag n ∷ (written k ++ (end_tag n ∷ written s))
written (leaf c s) = character c ∷ written s
