-- The table of classes has document 01's classes at every byte: `class_low`, `class_high`; and what a byte may be is told by
-- its class: `start_class`, `part_class`, `text_class`, `leaf_class`. Assumes nothing.
use Rattle.std.proofs.Common.{ℕ, ◌≡◌, ◌≤◌, ◌<◌, refl, sym, ◌∙◌, subst, Bool, not, true, false, ◌&&◌, arith}
use Rattle.std.proofs.Math.Bool.{and-false}
use Rattle.std.proofs.lemmas.Bool.{lt-leb, ne_eqb}
use Rattle.std.proofs.Math.Dec.{eqb, leb, T}
use Rattle.std.proofs.Math.ListN.{get_or}
use Rattle.std.proofs.lemmas.List.{get_or_default}
use Rattle.std.specs.Ordering.{partial_ge}
use Rattle.std.proofs.Math.Decide.{dec_lt}
use Rattle.alphabet.specs.Classes.{class_of, name_start, name_part, is_text, is_leaf}
use Rattle.alphabet.specs.declared.TheConstants.{CLASSES}
use Rattle.alphabet.specs.declared.Class.{Class}
use Rattle.alphabet.specs.declared.Class.TheVariants.{Never, Markup, Text, Inside, Front}
use Rattle.alphabet.specs.contracts.ClassPartialOrd.TheImpl.{partial_cmp-value}
use Rattle.alphabet.proofs.Table.{both, at}

-- x is y or a class behind it: what `>=` says
abbrev pub at_least : Class → Class → Bool
at_least y x = partial_ge partial_cmp-value.it x y

abbrev same : Bool → Bool → Bool
same true b = b
same false b = not b

same-eq : (a b : Bool) → T (same a b) → a ≡ b
same-eq true true t = refl
same-eq true false t = absurd t
same-eq false true t = absurd t
same-eq false false t = refl

-- an entry says what its byte may be
right : ℕ → Class → Bool
right k x = same (at_least Front x) (name_start k) && (same (at_least Inside x) (name_part k) && (same (at_least Text x) (is_text k) && same (at_least Markup x) (is_leaf k)))

record Says (b : ℕ) (x : Class) : Type 0 where
  front : at_least Front x ≡ name_start b
  part : at_least Inside x ≡ name_part b
  text : at_least Text x ≡ is_text b
  leaf : at_least Markup x ≡ is_leaf b

low : (b : ℕ) → b < 128 → Says b (get_or CLASSES b Never)
unfolding right name_start name_part is_text is_leaf
low b h =
    let x = get_or CLASSES b Never in
    let t = both (same (at_least Front x) (name_start b)) _ (at right CLASSES Never tt b h) in
    let u = both (same (at_least Inside x) (name_part b)) _ t.1 in
    let v = both (same (at_least Text x) (is_text b)) _ u.1 in
    record { front = same-eq _ _ t.0; part = same-eq _ _ u.0; text = same-eq _ _ v.0; leaf = same-eq _ _ v.1 }

high : (b : ℕ) → 128 ≤ b → Says b Never
unfolding name_start name_part is_text is_leaf
high b h =
    let z : leb b 90 ≡ false = lt-leb b 90 (omega arith) in
    let y : leb b 122 ≡ false = lt-leb b 122 (omega arith) in
    let n : leb b 57 ≡ false = lt-leb b 57 (omega arith) in
    let t : leb b 126 ≡ false = lt-leb b 126 (omega arith) in
    let e : (k : ℕ) → k < 128 → eqb b k ≡ false = λ k l. ne_eqb b k (λ p. omega arith) in
    record {
      front = sym (simp (z, y, e 95 (omega arith), and-false));
      part = sym (simp (z, y, n, e 45 (omega arith), e 95 (omega arith), e 46 (omega arith), and-false));
      text = sym (simp (t, e 9 (omega arith), e 10 (omega arith), e 13 (omega arith), and-false));
      leaf = sym (simp (t, e 9 (omega arith), e 10 (omega arith), e 13 (omega arith), and-false));
    }

-- the class that says it is the byte's
told : (b : ℕ) (x : Class) → Says b x → x ≡ class_of b
unfolding class_of
told b Never s = rw (← s.front, ← s.part, ← s.text, ← s.leaf)
told b Markup s = rw (← s.front, ← s.part, ← s.text, ← s.leaf)
told b Text s = rw (← s.front, ← s.part, ← s.text)
told b Inside s = rw (← s.front, ← s.part)
told b Front s = rw (← s.front)

pub class_low : (b : ℕ) (d : Class) → b < 128 → get_or CLASSES b d ≡ class_of b
class_low b d h = get_or_default CLASSES b d Never h ∙ told b _ (low b h)

pub class_high : (b : ℕ) → 128 ≤ b → class_of b ≡ Never
class_high b h = sym (told b Never (high b h))

module _ (b : ℕ) where
  says : Says b (class_of b)
  says = elim (dec_lt b 128) [ yes l ↦ subst (Says b) (class_low b Never l) (low b l) | no n ↦ subst (Says b) (sym (class_high b (omega arith))) (high b (omega arith)) ]

  pub start_class : at_least Front (class_of b) ≡ name_start b
  start_class = says.front

  pub part_class : at_least Inside (class_of b) ≡ name_part b
  part_class = says.part

  pub text_class : at_least Text (class_of b) ≡ is_text b
  text_class = says.text

  pub leaf_class : at_least Markup (class_of b) ≡ is_leaf b
  leaf_class = says.leaf

-- what the check uses to prove the functions
pub ruleset class_laws = (class_high, start_class, part_class, text_class, leaf_class)
