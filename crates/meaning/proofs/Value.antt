-- The stream-valued meaning is the written form of the forest-valued one: `transformed-image`. Assumes nothing.
use Prim.Native.Nat.{ℕ, zero, suc}
use mathlib.Core.Path.{◌≡◌, refl, ap}
use mathlib.Core.List.{List, [], ◌∷◌, ◌++◌, append_assoc, map}
use lib.ListN.{replicate, get_or-map}
use Rattle.meaning.specs.Forest.{Forest, nil, node, leaf, beside, character, written}
use Rattle.meaning.specs.Image.{Fun, empty, pick, rhs_forest, rhs_forests, result, image}
use Rattle.meaning.specs.Rules.{Source, children, siblings, on_empty, on_element, on_character, Rhs, done, element, matched, letter, matched_letter, value, call, RArgs, no_arg, arg, Table}
use Rattle.meaning.specs.Value.{Sem, silent, from, rhs_value, rhs_values, meaning, transformed}

written-beside : (f g : Forest) → written (beside f g) ≡ written f ++ written g
unfolding written beside
written-beside nil g = refl
written-beside (node n k s) g = rw (append_assoc, ← written-beside s g)
written-beside (leaf c s) g = ap (character c ∷◌) (written-beside s g)

-- the stream function k' is the forest function k, written
abbrev Writes : Fun → Sem → Type 0
Writes k k' = (q : ℕ) (ws : List Forest) → written (k q ws) ≡ k' q (map written ws)

writes_pick : (x : Source) (k s : Fun) (k' s' : Sem) → Writes k k' → Writes s s' → Writes (pick x k s) (from x k' s')
writes_pick children k s k' s' hk hs = hk
writes_pick siblings k s k' s' hk hs = hs

module _ (n c : ℕ) (k s : Fun) (k' s' : Sem) (hk : Writes k k') (hs : Writes s s') (vs : List Forest) where
  mutual
    unfolding written rhs_forest rhs_value

    written_rhs : (r : Rhs) → written (rhs_forest n c k s vs r) ≡ rhs_value n c k' s' (map written vs) r
    written_rhs done = refl
    written_rhs (element m b r) = rw (written_rhs b, written_rhs r)
    written_rhs (matched b r) = rw (written_rhs b, written_rhs r)
    written_rhs (letter d r) = ap (character d ∷◌) (written_rhs r)
    written_rhs (matched_letter r) = ap (character c ∷◌) (written_rhs r)
    written_rhs (value j r) = rw (written-beside, written_rhs r, ← get_or-map written vs j nil)
    written_rhs (call x q rs r) = rw (written-beside, written_rhs r, writes_pick x k s k' s' hk hs q (rhs_forests n c k s vs rs), written_all rs)

    written_all : (rs : RArgs) → map written (rhs_forests n c k s vs rs) ≡ rhs_values n c k' s' (map written vs) rs
    written_all no_arg = refl
    written_all (arg r rs) = rw (written_rhs r, written_all rs)

module _ (M : Table) where
  writes_silent : Writes empty silent
  unfolding written
  writes_silent q ws = refl

  pub written-result : (f : Forest) → Writes (result M f) (meaning M f)
  unfolding result meaning
  written-result nil q vs = written_rhs 0 0 empty empty silent silent writes_silent writes_silent vs (M.rule q on_empty)
  written-result (node n k s) q vs = written_rhs n 0 (result M k) (result M s) (meaning M k) (meaning M s) (written-result k) (written-result s) vs (M.rule q (on_element n))
  written-result (leaf c s) q vs = written_rhs 0 c empty (result M s) silent (meaning M s) writes_silent (written-result s) vs (M.rule q on_character)

  written-blanks : (n : ℕ) → map written (replicate n nil) ≡ replicate n []
  unfolding written
  written-blanks zero = refl
  written-blanks (suc n) = ap ([] ∷◌) (written-blanks n)

  pub transformed-image : (f : Forest) → transformed M f ≡ written (image M f)
  unfolding image transformed
  transformed-image f = rw (written-result, written-blanks)
