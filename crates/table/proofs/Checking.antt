-- The check of a table, field by field. Assumes nothing.
use Rattle.std.proofs.Common.{ℕ, suc, ◌≡◌, ◌-◌, ◌≤◌, ◌<◌, refl, sym, ap, ◌∙◌, Bool, true, false, ◌&&◌, List, [], ◌∷◌, length, get_or, take, drop, Some, None, arith}
use Rattle.std.proofs.lemmas.Bool.{eq-eqb, ne_eqb, ltb-true, ltb-false}
use Rattle.std.proofs.lemmas.Option.{none-some}
use Rattle.std.proofs.Math.Dec.{ltb, eqb}
use Rattle.std.specs.List.{list_all}
use Rattle.std.proofs.Math.Bool.{and-false}
use Rattle.std.proofs.lemmas.List.{take_rest}
use Rattle.alphabet.specs.Classes.{name_start, name_part}
use Rattle.table.specs.Format.{none_yet, number_of, all_parts, is_name}
use Rattle.table.specs.Names.{found}
use Rattle.table.proofs.Numbers.{number-most}

pub none_yet-none : (l : List ℕ) → length l ≡ 0 → none_yet l ≡ true
none_yet-none [] h = refl
none_yet-none (x ∷ l) h = absurd (omega arith)

pub none_yet-some : (l : List ℕ) → 0 < length l → none_yet l ≡ false
none_yet-some [] h = absurd (omega arith)
none_yet-some (x ∷ l) h = refl

-- a name that is none of the names
module _ (names : List (List ℕ)) (b : List ℕ) where
  pub new_name : None ≡ found names b → eqb (number_of names b) (length names) ≡ true
  new_name e = go (ltb (number_of names b) (length names)) refl
    where
      go : (t : Bool) → ltb (number_of names b) (length names) ≡ t → eqb (number_of names b) (length names) ≡ true
      go true h = absurd (none-some _ (rw h at e))
      go false h = eq-eqb (number_of names b) (length names) (omega (arith, number-most b names, ltb-false (number_of names b) (length names) h))

  pub old_name : (n : ℕ) → Some n ≡ found names b → eqb (number_of names b) (length names) ≡ false
  old_name n e = go (ltb (number_of names b) (length names)) refl
    where
      go : (t : Bool) → ltb (number_of names b) (length names) ≡ t → eqb (number_of names b) (length names) ≡ false
      go true h = ne_eqb (number_of names b) (length names) (λ z. omega (arith, ltb-true (number_of names b) (length names) h))
      go false h = absurd (none-some n (sym (rw h at e)))

pub parts-all : (l : List ℕ) → list_all name_part l ≡ all_parts l
unfolding all_parts
parts-all [] = refl
parts-all (b ∷ l) = ap (λ (t : Bool). name_part b && t) (parts-all l)

-- a name by its first byte and the bytes behind it
module _ (l : List ℕ) (h : 1 ≤ length l) where
  abbrev behind : List ℕ
  behind = take (length l - 1) (drop 1 l)

  name-by : is_name l ≡ (name_start (get_or l 0 0) && (list_all name_part behind && ltb (length l - 1) 32))
  name-by = go l h
    where
      go : (l : List ℕ) → 1 ≤ length l → is_name l ≡ (name_start (get_or l 0 0) && (list_all name_part (take (length l - 1) (drop 1 l)) && ltb (length l - 1) 32))
      go [] h = absurd (omega arith)
      go (b ∷ l) h = rw (take_rest (b ∷ l) 1, parts-all l, let e : suc (length l) - 1 ≡ length l = omega arith in e)

  pub name_first : name_start (get_or l 0 0) ≡ false → false ≡ is_name l
  name_first e = sym (name-by ∙ rw e)

  pub name_part_no : list_all name_part behind ≡ false → false ≡ is_name l
  name_part_no e = sym (name-by ∙ rw (e, and-false))

  pub name_yes : name_start (get_or l 0 0) ≡ true → list_all name_part behind ≡ true → ltb (length l - 1) 32 ≡ is_name l
  name_yes e f = sym (name-by ∙ rw (e, f))

pub ruleset check_laws = (name_first, name_part_no, name_yes, none_yet-none, none_yet-some, new_name, old_name)
