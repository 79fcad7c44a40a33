-- A name's number: the first name that has these bytes, or how many names there are. Assumes nothing.
use Rattle.std.proofs.Common.{ℕ, zero, suc, ◌≤◌, ◌<◌, ◌≡◌, refl, ap₂, Bool, true, false, ◌&&◌, List, [], ◌∷◌, arith, length, get_or}
use Rattle.std.proofs.lemmas.Bool.{eqb-true, eq-eqb}
use Rattle.std.proofs.Math.Dec.{eqb}
use Rattle.table.specs.Format.{same_bytes, counted, number_of}

pub same_refl : (a : List ℕ) → same_bytes a a ≡ true
unfolding same_bytes
same_refl [] = refl
same_refl (b ∷ a) = rw (eq-eqb b b refl) (same_refl a)

pub same_eq : (a b : List ℕ) → same_bytes a b ≡ true → a ≡ b
unfolding same_bytes
same_eq [] [] e = refl
same_eq [] (y ∷ b) e = cc
same_eq (x ∷ a) [] e = cc
same_eq (x ∷ a) (y ∷ b) e = go (eqb x y) refl (same_eq a b) e
  where
    go : (t : Bool) → eqb x y ≡ t → (same_bytes a b ≡ true → a ≡ b) → (t && same_bytes a b) ≡ true → x ∷ a ≡ y ∷ b
    go true h k f = ap₂ ◌∷◌ (eqb-true x y h) (k f)
    go false h k f = cc

module _ (n : List ℕ) where
  -- the name with that number has these bytes
  pub number_at : (names : List (List ℕ)) → number_of names n < length names → get_or names (number_of names n) [] ≡ n
  unfolding number_of
  number_at [] h = absurd (omega arith)
  number_at (a ∷ as₁) h = go (same_bytes a n) refl (number_at as₁) h
    where
      go : (t : Bool) → same_bytes a n ≡ t → (number_of as₁ n < length as₁ → get_or as₁ (number_of as₁ n) [] ≡ n) → counted t (number_of as₁ n) < suc (length as₁) → get_or (a ∷ as₁) (counted t (number_of as₁ n)) [] ≡ n
      go true e k l = same_eq a n e
      go false e k l = k (omega arith)

  -- no name before it has them
  pub number_least : (names : List (List ℕ)) (i : ℕ) → i < length names → get_or names i [] ≡ n → number_of names n ≤ i
  unfolding number_of
  number_least [] i h e = absurd (omega arith)
  number_least (a ∷ as₁) zero h e = rw (e, same_refl n) (omega arith)
  number_least (a ∷ as₁) (suc i) h e = go (same_bytes a n) (number_least as₁ i (omega arith) e)
    where
      go : (t : Bool) → number_of as₁ n ≤ i → counted t (number_of as₁ n) ≤ suc i
      go true k = omega arith
      go false k = omega arith

  pub number-most : (names : List (List ℕ)) → number_of names n ≤ length names
  unfolding number_of
  number-most [] = omega arith
  number-most (a ∷ as₁) = go (same_bytes a n) (number-most as₁)
    where
      go : (t : Bool) → number_of as₁ n ≤ length as₁ → counted t (number_of as₁ n) ≤ suc (length as₁)
      go true k = omega arith
      go false k = omega arith
