-- 6, 7 and 11 of the nesting are given exactly when document 01 says, and the reader's refusals come first. Assumes nothing.
--
--   EndsAnother               "end tag with nothing open, or another name open": the innermost open name is another, or none is
--   nest-given, given-nest    6 of an end tag that is so, and of nothing else
--   depth-given, given-depth  7 of a start tag with 64 open, and of nothing else
--   cut-given, given-cut      11 of finish with an element open, and of nothing else
--   not_byte, not_name        the nesting has no other refusal
--   refused_first             4, 11 and 5 of the bytes, whatever is open
--   nested-once               no second answer fits what `after` ensures
use Rattle.std.proofs.Common.{◌≡◌, ℕ, ◌≤◌, refl, sym, ap, ◌∙◌, Bool, true, false, cond, List, [], ◌∷◌, length, Result, Ok, Err}
use Rattle.std.proofs.Math.Dec.{eqb, ltb}
use Rattle.std.proofs.lemmas.Bool.{ne_eqb, eq-eqb, ltb-false, le-ltb}
use Rattle.meaning.specs.Event.{Event, start, char, end, finish}
use Rattle.reader.specs.declared.found.Refusal.{Refusal}
use Rattle.reader.specs.declared.found.Refusal.TheVariants.{Byte, Name, Nest, Depth, Cut}
use Rattle.reader.specs.Nest.{nested, read_nested}
use Rattle.reader.specs.Read.{read_event}

abbrev pub EndsAnother : List ℕ → Event → Type 0
EndsAnother o (start n) = ⊥
EndsAnother o (char c) = ⊥
EndsAnother [] (end n) = Unit {0}
EndsAnother (m ∷ o) (end n) = m ≡ n → ⊥
EndsAnother o finish = ⊥

-- a test's answer is one of two
one_of : (t : Bool) (a b r : Result (List ℕ) Refusal) → cond t a b ≡ r → (a ≡ r → ⊥) → (b ≡ r → ⊥) → ⊥
one_of true a b r e x y = x e
one_of false a b r e x y = y e

pub nest-given : (o : List ℕ) (v : Event) → nested o v ≡ Err Nest → EndsAnother o v
unfolding nested
nest-given o (start n) e = one_of (ltb (length o) 64) (Ok (n ∷ o)) (Err Depth) (Err Nest) e (λ x. cc) (λ x. cc)
nest-given o (char c) e = cc
nest-given [] (end n) e = tt
nest-given (m ∷ o) (end n) e = λ s. let z : ◌≡◌ {A = Result (List ℕ) Refusal} (Ok o) (Err Nest) = ap (λ (t : Bool). cond t (Ok o) (Err Nest)) (sym (eq-eqb m n s)) ∙ e in cc
nest-given [] finish e = cc
nest-given (m ∷ o) finish e = cc

pub given-nest : (o : List ℕ) (v : Event) → EndsAnother o v → nested o v ≡ Err Nest
unfolding nested
given-nest o (start n) a = absurd a
given-nest o (char c) a = absurd a
given-nest [] (end n) a = refl
given-nest (m ∷ o) (end n) a = rw (ne_eqb m n a)
given-nest o finish a = absurd a

pub depth-given : (o : List ℕ) (v : Event) → nested o v ≡ Err Depth → (n : ℕ) × (v ≡ start n) × (64 ≤ length o)
unfolding nested
depth-given o (start n) e = (n, refl, go (ltb (length o) 64) refl e)
  where
    go : (t : Bool) → ltb (length o) 64 ≡ t → cond t (Ok (n ∷ o)) (Err Depth) ≡ Err Depth → 64 ≤ length o
    go true h e = cc
    go false h e = ltb-false (length o) 64 h
depth-given o (char c) e = cc
depth-given [] (end n) e = cc
depth-given (m ∷ o) (end n) e = absurd (one_of (eqb m n) (Ok o) (Err Nest) (Err Depth) e (λ x. cc) (λ x. cc))
depth-given [] finish e = cc
depth-given (m ∷ o) finish e = cc

pub given-depth : (o : List ℕ) (n : ℕ) → 64 ≤ length o → nested o (start n) ≡ Err Depth
unfolding nested
given-depth o n h = rw (le-ltb (length o) 64 h)

pub cut-given : (o : List ℕ) (v : Event) → nested o v ≡ Err Cut → (v ≡ finish) × (o ≡ [] → ⊥)
unfolding nested
cut-given o (start n) e = absurd (one_of (ltb (length o) 64) (Ok (n ∷ o)) (Err Depth) (Err Cut) e (λ x. cc) (λ x. cc))
cut-given o (char c) e = cc
cut-given [] (end n) e = cc
cut-given (m ∷ o) (end n) e = absurd (one_of (eqb m n) (Ok o) (Err Nest) (Err Cut) e (λ x. cc) (λ x. cc))
cut-given [] finish e = cc
cut-given (m ∷ o) finish e = (refl, λ x. cc)

pub given-cut : (o : List ℕ) → (o ≡ [] → ⊥) → nested o finish ≡ Err Cut
unfolding nested
given-cut [] h = absurd (h refl)
given-cut (m ∷ o) h = refl

pub not_byte : (o : List ℕ) (v : Event) → nested o v ≡ Err Byte → ⊥
unfolding nested
not_byte o (start n) e = one_of (ltb (length o) 64) (Ok (n ∷ o)) (Err Depth) (Err Byte) e (λ x. cc) (λ x. cc)
not_byte o (char c) e = cc
not_byte [] (end n) e = cc
not_byte (m ∷ o) (end n) e = one_of (eqb m n) (Ok o) (Err Nest) (Err Byte) e (λ x. cc) (λ x. cc)
not_byte [] finish e = cc
not_byte (m ∷ o) finish e = cc

pub not_name : (o : List ℕ) (v : Event) → nested o v ≡ Err Name → ⊥
unfolding nested
not_name o (start n) e = one_of (ltb (length o) 64) (Ok (n ∷ o)) (Err Depth) (Err Name) e (λ x. cc) (λ x. cc)
not_name o (char c) e = cc
not_name [] (end n) e = cc
not_name (m ∷ o) (end n) e = one_of (eqb m n) (Ok o) (Err Nest) (Err Name) e (λ x. cc) (λ x. cc)
not_name [] finish e = cc
not_name (m ∷ o) finish e = cc

pub refused_first : (names : List (List ℕ)) (o bs : List ℕ) (r : Refusal) → read_event names bs ≡ Err r → read_nested names o bs ≡ Err r
unfolding read_nested
refused_first names o bs r h = rw h

pub nested-once : (o : List ℕ) (v : Event) (r s : Result (List ℕ) Refusal) → r ≡ nested o v → s ≡ nested o v → r ≡ s
nested-once o v r s e f = e ∙ sym f
