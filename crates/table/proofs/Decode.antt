-- An accepted table is the encoding of what it reads as: `read-encoded`. So each table has one encoding. Assumes nothing.
use Rattle.std.proofs.Common.{ℕ, zero, suc, ◌≡◌, ◌+◌, ◌*◌, ◌/◌, ◌%◌, ◌≤◌, ◌<◌, refl, sym, subst, ap, ◌∙◌, Bool, true, false, cond, not, ◌&&◌, List, [], ◌∷◌, ◌++◌, length, take, drop, get_or, length-drop, arith}
use Rattle.std.proofs.lemmas.Bool.{eqb-true, eqb-false, leb-true, leb-false}
use Rattle.std.proofs.lemmas.List.{nil_from_length, length-take-le, take-append-drop}
use Rattle.std.proofs.Math.Dec.{eqb, leb}
use Rattle.table.specs.Format.{Fields, stop, cut, field, fields_from, fields, Rule, Contents, nothing, rule_of, rule_holds, none_yet, end_refusal, refusal, added, Read, behind_end, check_fields, read}
use Rattle.table.specs.Encode.{encoded_field, rule_content, encoded_names, encoded_ranks, encoded_rules, encoded, Bytes}
use Rattle.table.proofs.Reading.{enough, too-few, both, chosen, check-refused, check-on, check-end, behind-end, Name, State, A-rule, name_accepted, state_accepted, rule_accepted, as-name, as-state, as-rule, as-none, read-fields, reading_long}

-- ---- bytes

bytes-drop : (n : ℕ) (l : List ℕ) → Bytes l → Bytes (drop n l)
bytes-drop zero l b = b
bytes-drop (suc n) [] b = b
bytes-drop (suc n) (x ∷ l) b = bytes-drop n l b.1

-- a field at the front of bytes is encoded as it stands
module _ (x h l : ℕ) (k : List ℕ) (hb : l < 256) where
  abbrev size : ℕ
  size = h * 256 + l

  spelled-field : size ≤ length k → encoded_field x (take size k) ++ drop size k ≡ x ∷ h ∷ l ∷ k
  spelled-field m =
      let n : length (take size k) ≡ size = length-take-le size k m in
      let a : length (take size k) / 256 ≡ h = omega (arith, n, hb) in
      let b : length (take size k) % 256 ≡ l = omega (arith, n, hb) in
      let t : take size k ++ drop size k ≡ k = take-append-drop size k in
      rw (a, b, t)

-- ---- the contents so far, in front of the bytes k

abbrev opened : Contents → List ℕ → List ℕ
opened C k = encoded_names C.names (encoded_ranks C.ranks (encoded_rules C.rules k))

names-snoc : (ns : List (List ℕ)) (a k : List ℕ) → encoded_names (ns ++ (a ∷ [])) k ≡ encoded_names ns (encoded_field 1 a ++ k)
unfolding encoded_names
names-snoc [] a k = refl
names-snoc (n ∷ ns) a k = ap (encoded_field 1 n ++◌) (names-snoc ns a k)

ranks-snoc : (rs : List ℕ) (r : ℕ) (k : List ℕ) → encoded_ranks (rs ++ (r ∷ [])) k ≡ encoded_ranks rs (encoded_field 2 (r ∷ []) ++ k)
unfolding encoded_ranks
ranks-snoc [] r k = refl
ranks-snoc (n ∷ rs) r k = ap (encoded_field 2 (n ∷ []) ++◌) (ranks-snoc rs r k)

rules-snoc : (us : List Rule) (u : Rule) (k : List ℕ) → encoded_rules (us ++ (u ∷ [])) k ≡ encoded_rules us (encoded_field 3 (rule_content u) ++ k)
unfolding encoded_rules
rules-snoc [] u k = refl
rules-snoc (v ∷ us) u k = ap (encoded_field 3 (rule_content v) ++◌) (rules-snoc us u k)

-- a rule's content that holds all it must is that of the rule
rule-content : (c : List ℕ) → rule_holds c ≡ true → rule_content (rule_of c) ≡ c
rule-content [] h = cc
rule-content (s ∷ []) h = cc
rule-content (s ∷ p ∷ []) h = go (eqb p 1) refl
  where
    go : (t : Bool) → eqb p 1 ≡ t → rule_content (rule_of (s ∷ p ∷ [])) ≡ s ∷ p ∷ []
    go true e = let z : false ≡ true = rw e at h in cc
    go false e = rw e
rule-content (s ∷ p ∷ n ∷ c) h = go (eqb p 1) refl
  where
    go : (t : Bool) → eqb p 1 ≡ t → rule_content (rule_of (s ∷ p ∷ n ∷ c)) ≡ s ∷ p ∷ n ∷ c
    go true e = rw e
    go false e = rw e

one-byte : (c : List ℕ) → length c ≡ 1 → get_or c 0 0 ∷ [] ≡ c
one-byte [] h = absurd (omega arith)
one-byte (x ∷ []) h = refl
one-byte (x ∷ y ∷ c) h = absurd (omega arith)

-- no rule without a state, and none before a key is asked for
record Ordered (C : Contents) : Type 0 where
  states : length C.ranks ≡ 0 → C.rules ≡ []
  keys : C.next ≡ 0 → C.rules ≡ []

-- one field more
record More (C : Contents) (t : ℕ) (c k : List ℕ) : Type 0 where
  ordered : Ordered (added C t c)
  bytes : opened (added C t c) k ≡ opened C (encoded_field t c ++ k)

module _ (C : Contents) (c k : List ℕ) (o : Ordered C) where
  more-name : refusal C.names C.ranks C.next 1 c ≡ 0 → More C 1 c k
  unfolding added encoded_ranks encoded_rules
  more-name f =
      let N : Name C.names C.ranks C.next c = name_accepted C.names C.ranks C.next c (sym (as-name C.names C.ranks C.next 1 c refl) ∙ f) in
      let r : C.ranks ≡ [] = nil_from_length C.ranks N.none in
      let u : C.rules ≡ [] = o.states N.none in
      record {
        ordered = record { states = o.states; keys = o.keys };
        bytes = rw (r, u) (names-snoc C.names c k);
      }

  more-state : refusal C.names C.ranks C.next 2 c ≡ 0 → More C 2 c k
  unfolding added encoded_rules
  more-state f =
      let S : State C.names C.ranks C.next c = state_accepted C.names C.ranks C.next c (sym (as-state C.names C.ranks C.next 2 c refl) ∙ f) in
      let u : C.rules ≡ [] = o.keys S.first in
      record {
        ordered = record { states = λ z. u; keys = o.keys };
        bytes = rw u (ap (encoded_names C.names) (ranks-snoc C.ranks (get_or c 0 0) k ∙ ap (λ (x : List ℕ). encoded_ranks C.ranks (encoded_field 2 x ++ k)) (one-byte c S.one)));
      }

  more-rule : refusal C.names C.ranks C.next 3 c ≡ 0 → More C 3 c k
  unfolding added
  more-rule f =
      let R : A-rule C.names C.ranks C.next c = rule_accepted C.names C.ranks C.next c (length C.names) (sym (as-rule C.names C.ranks C.next 3 c refl) ∙ f) in
      record {
        ordered = record { states = λ z. absurd (omega (arith, z, R.some)); keys = λ z. absurd (omega (arith, z)) };
        bytes = ap (λ (x : List ℕ). encoded_names C.names (encoded_ranks C.ranks x)) (rules-snoc C.rules (rule_of c) k ∙ ap (λ (x : List ℕ). encoded_rules C.rules (encoded_field 3 x ++ k)) (rule-content c R.holds));
      }

  more : (t : ℕ) → (t ≡ 4 → ⊥) → refusal C.names C.ranks C.next t c ≡ 0 → More C t c k
  more t n f = go (eqb t 1) (eqb t 2) (eqb t 3) refl refl refl
    where
      go : (p q r : Bool) → eqb t 1 ≡ p → eqb t 2 ≡ q → eqb t 3 ≡ r → More C t c k
      go true q r e1 e2 e3 = let z = eqb-true t 1 e1 in subst (λ (i : ℕ). More C i c k) (sym z) (more-name (ap (λ (i : ℕ). refusal C.names C.ranks C.next i c) (sym z) ∙ f))
      go false true r e1 e2 e3 = let z = eqb-true t 2 e2 in subst (λ (i : ℕ). More C i c k) (sym z) (more-state (ap (λ (i : ℕ). refusal C.names C.ranks C.next i c) (sym z) ∙ f))
      go false false true e1 e2 e3 = let z = eqb-true t 3 e3 in subst (λ (i : ℕ). More C i c k) (sym z) (more-rule (ap (λ (i : ℕ). refusal C.names C.ranks C.next i c) (sym z) ∙ f))
      go false false false e1 e2 e3 = absurd (let w = as-none C.names C.ranks C.next t c (eqb-false t 1 e1) (eqb-false t 2 e2) (eqb-false t 3 e3) n in omega (arith, w, f))

-- ---- all fields

abbrev Spelled : Read → List ℕ → Type 0
Spelled r l = encoded r.contents ≡ l

ended-with : (C : Contents) (fs : Fields) → (behind_end C fs).contents ≡ C
ended-with C (stop p) = refl
ended-with C (cut p) = refl
ended-with C (field p x y fs) = refl

-- the end field, and what stands behind it
end-spelled : (C : Contents) (at p t : ℕ) (c d : List ℕ) → t ≡ 4 → refusal C.names C.ranks C.next t c ≡ 0 → (check_fields C (field at t c (fields_from d p 0))).number ≡ 0
    → Spelled (check_fields C (field at t c (fields_from d p 0))) (opened C (encoded_field t c ++ d))
unfolding refusal end_refusal encoded
end-spelled C at p t c d z f h =
    let e = check-end C at t c (fields_from d p 0) z f in
    let g : cond (not (none_yet C.ranks) && eqb (length c) 0) 0 1 ≡ 0 = rw z at f in
    let nc : c ≡ [] = nil_from_length c (eqb-true (length c) 0 (both _ _ (chosen (not (none_yet C.ranks) && eqb (length c) 0) 0 0 g).0).1) in
    let q : cond (eqb (length d) 0) 0 1 ≡ 0 = sym (ap (λ (r : ℕ × ℕ). r.0) (behind-end C d p)) ∙ sym (ap Read.number e) ∙ h in
    let nd : d ≡ [] = nil_from_length d (eqb-true (length d) 0 (chosen (eqb (length d) 0) 0 0 q).0) in
    ap (λ (r : Read). encoded r.contents) e ∙ ap encoded (ended-with C (fields_from d p 0)) ∙ rw (z, nc, nd)

-- a field, and then what follows it
field-spelled : (C : Contents) (at p t : ℕ) (c d : List ℕ) → Ordered C
    → ((C' : Contents) → Ordered C' → (check_fields C' (fields_from d p 0)).number ≡ 0 → Spelled (check_fields C' (fields_from d p 0)) (opened C' d))
    → (check_fields C (field at t c (fields_from d p 0))).number ≡ 0 → Spelled (check_fields C (field at t c (fields_from d p 0))) (opened C (encoded_field t c ++ d))
field-spelled C at p t c d o then h = go (refusal C.names C.ranks C.next t c) (eqb t 4) refl refl
  where
    go : (r : ℕ) (q : Bool) → refusal C.names C.ranks C.next t c ≡ r → eqb t 4 ≡ q → Spelled (check_fields C (field at t c (fields_from d p 0))) (opened C (encoded_field t c ++ d))
    go (suc r) q f e = absurd (let z : suc r ≡ 0 = sym (ap Read.number (check-refused C at t c (fields_from d p 0) r f)) ∙ h in omega arith)
    go zero true f e = end-spelled C at p t c d (eqb-true t 4 e) f h
    go zero false f e =
        let n = eqb-false t 4 e in
        let M = more C c d o t n f in
        let w = check-on C at t c (fields_from d p 0) n f in
        ap (λ (r : Read). encoded r.contents) w ∙ then (added C t c) M.ordered (sym (ap Read.number w) ∙ h) ∙ M.bytes

cut-number : (C : Contents) (fs : Fields) (at : ℕ) → fs ≡ cut at → (check_fields C fs).number ≡ 0 → ⊥
unfolding check_fields
cut-number C fs at e h = let z : ◌≡◌ {A = ℕ} 1 0 = sym (ap (λ (f : Fields). (check_fields C f).number) e) ∙ h in omega arith

-- bytes that begin with a field's head, where what stands behind the field is spelled
front-spelled : (x u l : ℕ) (k : List ℕ) (C : Contents) (at : ℕ) → l < 256 → Ordered C
    → (u * 256 + l ≤ length k → (C' : Contents) (p : ℕ) → Ordered C' → (check_fields C' (fields_from (drop (u * 256 + l) k) p 0)).number ≡ 0
    → Spelled (check_fields C' (fields_from (drop (u * 256 + l) k) p 0)) (opened C' (drop (u * 256 + l) k)))
    → (check_fields C (fields_from (x ∷ u ∷ l ∷ k) at 0)).number ≡ 0 → Spelled (check_fields C (fields_from (x ∷ u ∷ l ∷ k) at 0)) (opened C (x ∷ u ∷ l ∷ k))
front-spelled x u l k C at b o then h = go (leb (u * 256 + l) (length k)) refl
  where
    go : (t : Bool) → leb (u * 256 + l) (length k) ≡ t → Spelled (check_fields C (fields_from (x ∷ u ∷ l ∷ k) at 0)) (opened C (x ∷ u ∷ l ∷ k))
    go false q = absurd (cut-number C (fields_from (x ∷ u ∷ l ∷ k) at 0) at (too-few x (u ∷ l ∷ k) at (omega (arith, leb-false (u * 256 + l) (length k) q))) h)
    go true q =
        let w : u * 256 + l ≤ length k = leb-true (u * 256 + l) (length k) q in
        let p = at + 3 + (u * 256 + l) in
        let e = ap (check_fields C) (enough x u l k at w) in
        ap (λ (r : Read). encoded r.contents) e
        ∙ field-spelled C at p x (take (u * 256 + l) k) (drop (u * 256 + l) k) o (λ C'. then w C' p) (sym (ap Read.number e) ∙ h)
        ∙ ap (opened C) (spelled-field x u l k b w)

all-spelled : (n : ℕ) (bs : List ℕ) → length bs ≤ n → Bytes bs → (C : Contents) (at : ℕ) → Ordered C → (check_fields C (fields_from bs at 0)).number ≡ 0 → Spelled (check_fields C (fields_from bs at 0)) (opened C bs)
unfolding fields_from check_fields
all-spelled n [] m b C at o h = absurd (omega (arith, h))
all-spelled n (x ∷ []) m b C at o h = absurd (cut-number C (fields_from (x ∷ []) at 0) at (too-few x [] at (omega arith)) h)
all-spelled n (x ∷ y ∷ []) m b C at o h = absurd (cut-number C (fields_from (x ∷ y ∷ []) at 0) at (too-few x (y ∷ []) at (omega arith)) h)
all-spelled zero (x ∷ u ∷ l ∷ k) m b C at o h = absurd (omega (arith, m))
all-spelled (suc n) (x ∷ u ∷ l ∷ k) m b C at o h =
    front-spelled x u l k C at b.1.1.0 o
    (λ w. all-spelled n (drop (u * 256 + l) k) (omega (arith, length-drop (u * 256 + l) k, m)) (bytes-drop (u * 256 + l) k b.1.1.1))
    h

-- the theorem
pub read-encoded : (l : List ℕ) → Bytes l → (read l).number ≡ 0 → encoded (read l).contents ≡ l
unfolding fields encoded_names encoded_ranks encoded_rules
read-encoded l b h = go (leb (length l) 32768) refl
  where
    go : (t : Bool) → leb (length l) 32768 ≡ t → encoded (read l).contents ≡ l
    go true m =
        let e = read-fields l (leb-true (length l) 32768 m) in
        ap (λ (r : Read). encoded r.contents) e ∙ all-spelled (length l) l (omega arith) b nothing 0 (record { states = λ z. refl; keys = λ z. refl }) (sym (ap Read.number e) ∙ h)
    go false m = absurd (let z = ap (λ (p : ℕ × ℕ). p.0) (reading_long l (leb-false (length l) 32768 m)) in omega (arith, z, h))
