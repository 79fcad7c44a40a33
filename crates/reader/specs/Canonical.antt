-- The fields of what is open, and the list of the open names that a contract sees in their place. Assumes nothing.
--
-- docs/DECISIONS.md D19: two records are equal exactly when they say the same.
--
--   Canonical     as many names as are open stand at the front, the outermost first; the other places have 0
--   open_names    the open names, the innermost first
--   places_of     the fields' names, read off that list: `names-back`, `depth-back`
use Rattle.std.specs.Prelude.{◌≡◌, ℕ, ◌-◌, ◌≤◌, List, ◌++◌, length, take, drop, reverse, replicate}
use Rattle.std.proofs.Common.{◌∙◌, arith}
use Rattle.std.proofs.lemmas.List.{reverse-reverse, length-reverse, length-take-le, take-append-drop}

pub record Canonical (names : List ℕ) (depth : ℕ) : Type 0 where
  pub places : length names ≡ 64
  pub few : depth ≤ 64
  pub unused : drop depth names ≡ replicate (64 - depth) 0

abbrev pub open_names : List ℕ → ℕ → List ℕ
open_names names depth = reverse (take depth names)

abbrev pub places_of : List ℕ → List ℕ
places_of open₁ = reverse open₁ ++ replicate (64 - length open₁) 0

module _ (names : List ℕ) (depth : ℕ) (c : Canonical names depth) where
  pub depth-back : length (open_names names depth) ≡ depth
  depth-back = length-reverse (take depth names) ∙ length-take-le depth names (omega (arith, c.places, c.few))

  pub names-back : places_of (open_names names depth) ≡ names
  names-back = rw (reverse-reverse (take depth names), depth-back, ← c.unused) (take-append-drop depth names)
