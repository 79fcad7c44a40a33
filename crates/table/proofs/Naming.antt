-- Names as they stand in a table: which one some bytes are; and carried values by their places. Assumes nothing.
use Rattle.std.proofs.Common.{ℕ, zero, suc, ◌≡◌, ◌+◌, ◌*◌, ◌≤◌, ◌<◌, refl, sym, ap, ◌∙◌, Bool, true, false, ◌&&◌, List, [], ◌∷◌, length, get_or, take, drop, add_assoc, add-zero, nat_eq, Some, None, arith, ◌-◌, cond, min, drop_of_length-le}
use Rattle.std.proofs.lemmas.Bool.{lt-ltb, le-ltb, ltb-false}
use Rattle.std.proofs.Math.Dec.{ltb}
use Rattle.std.specs.List.{slice_get}
use Rattle.std.proofs.lemmas.Option.{slice_get-get_or, slice_get_past, unwrap_or-slice_get}
use Rattle.std.proofs.lemmas.List.{get_or-drop, drop-drop, drop-take, drop_min, take_min, take_rest}
use Rattle.std.proofs.Math.Seq.{take-nil}
use lib.Pointwise.{pointwise}
use Rattle.table.specs.Format.{same_bytes, counted, number_of}
use Rattle.table.specs.Names.{name_at, names_at, ranks_at, found}
use Rattle.table.proofs.Numbers.{number-most}

-- the library's equality of bytes is that of the definitions
pub pointwise-same_bytes : (x y : List ℕ) → pointwise nat_eq x y ≡ same_bytes x y
unfolding same_bytes
pointwise-same_bytes [] [] = refl
pointwise-same_bytes [] (c ∷ y) = refl
pointwise-same_bytes (b ∷ x) [] = refl
pointwise-same_bytes (b ∷ x) (c ∷ y) = ap (λ (t : Bool). nat_eq b c && t) (pointwise-same_bytes x y)

-- the name at the front is the first bytes behind its head
pub front_name : (l : List ℕ) → take (get_or l 2 0) (drop 3 l) ≡ name_at l 0
unfolding name_at
front_name l = sym (drop-take 3 (get_or l 2 0) l)

-- fewer bytes than a field's head: no name
pub name_short : (l : List ℕ) → length l < 3 → ◌≡◌ {A = List ℕ} [] (name_at l 0)
name_short l h = sym (take-nil (get_or l 2 0)) ∙ sym (ap (take (get_or l 2 0)) (drop_of_length-le l {i = 3} (omega arith))) ∙ front_name l

pub name_rest : (l r : List ℕ) (k n : ℕ) → k ≡ get_or l 2 0 → n ≡ min k (length (take (length l - 3) (drop 3 l))) → r ≡ take n (take (length l - 3) (drop 3 l)) → r ≡ name_at l 0
name_rest l r k n g e h = h ∙ rw (e, take_rest l 3, take_min k (drop 3 l), g) (front_name l)

-- what stands behind the first bytes of a table
module _ (l : List ℕ) (i : ℕ) where
  name_behind : (j : ℕ) → name_at (drop i l) j ≡ name_at l (i + j)
  unfolding name_at
  name_behind j =
      rw (get_or-drop i l (j + 2) 0)
      (rw (drop-take (j + 3) (get_or l (i + (j + 2)) 0) (drop i l), drop-drop (j + 3) i l, ← add_assoc i j 3, ← add_assoc i j 2, drop-take (i + j + 3) (get_or l (i + j + 2) 0) l))

  pub names_behind : (k j : ℕ) → names_at (drop i l) j k ≡ names_at l (i + j) k
  unfolding names_at
  names_behind zero j = refl
  names_behind (suc k) j = rw (get_or-drop i l (j + 2) 0, names_behind k, name_behind j, ← add_assoc i (j + 3) (get_or l (i + (j + 2)) 0), ← add_assoc i j 3, ← add_assoc i j 2)

pub length-names : (l : List ℕ) (at k : ℕ) → length (names_at l at k) ≡ k
unfolding names_at
length-names l at zero = refl
length-names l at (suc k) = ap suc (length-names l (at + 3 + get_or l (at + 2) 0) k)

-- the search of b among count names, the first of a table l: n of them are passed, and rest begins with the field of the next
module _ (l b rest first : List ℕ) (n count : ℕ) (p : number_of (names_at l 0 count) b ≡ n + number_of (names_at rest 0 (count - n)) b) where
  module _ (h : n < count) (f : first ≡ name_at rest 0) where
    next : number_of (names_at l 0 count) b ≡ n + counted (same_bytes first b) (number_of (names_at (drop (3 + get_or rest 2 0) rest) 0 (count - (n + 1))) b)
    unfolding names_at number_of
    next =
        p ∙ ap (λ (k : ℕ). n + number_of (names_at rest 0 k) b) (let e : count - n ≡ suc (count - (n + 1)) = omega arith in e)
        ∙ rw (f, names_behind rest (3 + get_or rest 2 0) (count - (n + 1)) 0, add-zero (3 + get_or rest 2 0))

    -- the next one is b
    pub found_here : pointwise nat_eq first b ≡ true → Some n ≡ found (names_at l 0 count) b
    found_here e = rw (next, sym (pointwise-same_bytes first b) ∙ e) (rw (add-zero n, lt-ltb n (length (names_at l 0 count)) (omega (arith, length-names l 0 count))))

    -- it is not
    pub not_here : pointwise nat_eq first b ≡ false → number_of (names_at l 0 count) b ≡ n + 1 + number_of (names_at (drop (3 + get_or rest 2 0) rest) 0 (count - (n + 1))) b
    not_here e = next ∙ rw (sym (pointwise-same_bytes first b) ∙ e) (omega arith)

  -- none is left
  pub found_nowhere : count ≤ n → None ≡ found (names_at l 0 count) b
  found_nowhere h = rw (le-ltb (number_of (names_at l 0 count) b) (length (names_at l 0 count)) (omega (arith, p, length-names l 0 count)))

-- what is found is the number, and where nothing is found the number is how many names there are
module _ (names : List (List ℕ)) (b : List ℕ) where
  number_by : (t : Bool) → ltb (number_of names b) (length names) ≡ t → (n : ℕ) → Some n ≡ cond t (Some (number_of names b)) None → (n ≡ number_of names b) × (n ≤ length names)
  number_by true e n h = let p : n ≡ number_of names b = cc in (p, omega (arith, number-most b names))
  number_by false e n h = cc

  pub found_number : (n : ℕ) → Some n ≡ found names b → (n ≡ number_of names b) × (n ≤ length names)
  found_number n h = number_by (ltb (number_of names b) (length names)) refl n h

  none_by : (t : Bool) → ltb (number_of names b) (length names) ≡ t → None ≡ cond t (Some (number_of names b)) None → number_of names b ≡ length names
  none_by true e h = cc
  none_by false e h = omega (arith, number-most b names, ltb-false (number_of names b) (length names) e)

  pub found_none : None ≡ found names b → number_of names b ≡ length names
  found_none h = none_by (ltb (number_of names b) (length names)) refl h

-- the carried values of states by their places
pub length-ranks : (l : List ℕ) (at n : ℕ) → length (ranks_at l at n) ≡ n
unfolding ranks_at
length-ranks l at zero = refl
length-ranks l at (suc n) = ap suc (length-ranks l (at + 4) n)

pub rank-at : (l : List ℕ) (at n q : ℕ) → q < n → get_or (ranks_at l at n) q 0 ≡ get_or l (at + 4 * q + 3) 0
unfolding ranks_at
rank-at l at zero q h = absurd (omega arith)
rank-at l at (suc n) zero h = ap (λ (i : ℕ). get_or l i 0) (let e : at + 3 ≡ at + 4 * 0 + 3 = omega arith in e)
rank-at l at (suc n) (suc q) h = rank-at l (at + 4) n q (omega arith) ∙ ap (λ (i : ℕ). get_or l i 0) (let e : at + 4 + 4 * q + 3 ≡ at + 4 * suc q + 3 = omega arith in e)

pub rank-known : (l : List ℕ) (at n q : ℕ) → q < n → slice_get (ranks_at l at n) q ≡ Some (get_or l (at + 4 * q + 3) 0)
rank-known l at n q h = slice_get-get_or (ranks_at l at n) q 0 (omega (arith, length-ranks l at n)) ∙ ap Some (rank-at l at n q h)

pub rank_unknown : (l : List ℕ) (at n q : ℕ) → n ≤ q → slice_get (ranks_at l at n) q ≡ None
rank_unknown l at n q h = slice_get_past (ranks_at l at n) q (omega (arith, length-ranks l at n))

-- the states whose fields begin behind the first i bytes, and in the part of a table that a slice from there on is
pub ranks_behind : (i : ℕ) (l : List ℕ) (n j : ℕ) → ranks_at (drop i l) j n ≡ ranks_at l (i + j) n
unfolding ranks_at
ranks_behind i l zero j = refl
ranks_behind i l (suc n) j = rw (get_or-drop i l (j + 3) 0, ranks_behind i l n, ← add_assoc i j 3, ← add_assoc i j 4)

pub ranks-part : (base : ℕ) (l : List ℕ) (n m : ℕ) → m ≡ min base (length l) → ranks_at (take (length l - m) (drop m l)) 0 n ≡ ranks_at l base n
ranks-part base l n m h = ap (λ (k : List ℕ). ranks_at k 0 n) (take_rest l m ∙ ap (λ (i : ℕ). drop i l) h ∙ drop_min base l) ∙ ranks_behind base l n 0 ∙ ap (λ (i : ℕ). ranks_at l i n) (add-zero base)

-- what the check uses to prove the functions over states
pub ruleset rank_laws = (length-ranks, rank-known, rank_unknown, unwrap_or-slice_get)

pub ruleset name_laws = (front_name, name_short, name_rest, take_rest, take_min, drop_min, length-names, found_here, not_here, found_nowhere)
