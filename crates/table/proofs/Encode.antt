-- An encoded table that is accepted reads as what was encoded: `encoded_read`. Assumes nothing.
use Rattle.std.proofs.Common.{ℕ, zero, suc, ◌≡◌, ◌+◌, ◌*◌, ◌/◌, ◌%◌, refl, sym, subst, ap, ◌∙◌, Bool, true, false, List, [], ◌∷◌, ◌++◌, length, take, drop, append_assoc, append-nil, length-append, arith}
use Rattle.std.proofs.Math.Seq.{take-append_seam, drop-append_seam}
use Rattle.std.proofs.lemmas.Bool.{eqb-false, leb-true, leb-false}
use Rattle.std.proofs.Math.Dec.{eqb, leb}
use Rattle.table.specs.Format.{Fields, field, fields_from, fields, Rule, Contents, nothing, rule_of, refusal, added, Read, check_fields, read}
use Rattle.table.specs.Encode.{encoded_field, rule_content, encoded_names, encoded_ranks, encoded_rules, encoded, Canonical}
use Rattle.table.proofs.Reading.{enough, check-refused, check-on, check-end, read-fields, reading_long}

-- an encoded field is read back
field-back : (t : ℕ) (c k : List ℕ) (at : ℕ) → fields_from (encoded_field t c ++ k) at 0 ≡ field at t c (fields_from k (at + 3 + length c) 0)
field-back t c k at =
    let e : length c / 256 * 256 + length c % 256 ≡ length c = omega arith in
    enough t (length c / 256) (length c % 256) (c ++ k) at (omega (arith, length-append c k))
    ∙ ap (λ (n : ℕ). field at t (take n (c ++ k)) (fields_from (drop n (c ++ k)) (at + 3 + n) 0)) e
    ∙ rw (take-append_seam c k, drop-append_seam c k)

-- a rule is read back from its content
rule-back : (r : Rule) → ((r.pattern ≡ 1 → ⊥) → r.name ≡ 0) → rule_of (rule_content r) ≡ r
rule-back r h = go (eqb r.pattern 1) refl
  where
    go : (t : Bool) → eqb r.pattern 1 ≡ t → rule_of (rule_content r) ≡ r
    go true e = rw e
    go false e = let z : r.name ≡ 0 = h (eqb-false r.pattern 1 e) in rw (e, ← z)

-- from C the check goes on behind some fields, where the bytes k begin, with names, carried values and rules more
record Went (C : Contents) (fs : Fields) (k : List ℕ) (ns : List (List ℕ)) (rs : List ℕ) (us : List Rule) : Type 0 where
  at : ℕ
  to : Contents
  names : to.names ≡ C.names ++ ns
  ranks : to.ranks ≡ C.ranks ++ rs
  rules : to.rules ≡ C.rules ++ us
  goes : check_fields C fs ≡ check_fields to (fields_from k at 0)

-- no field was refused
one-field : (C : Contents) (p t : ℕ) (c : List ℕ) (fs : Fields) → (t ≡ 4 → ⊥) → (check_fields C (field p t c fs)).number ≡ 0 → check_fields C (field p t c fs) ≡ check_fields (added C t c) fs
one-field C p t c fs n h = go (refusal C.names C.ranks C.next t c) refl
  where
    go : (r : ℕ) → refusal C.names C.ranks C.next t c ≡ r → check_fields C (field p t c fs) ≡ check_fields (added C t c) fs
    go zero e = check-on C p t c fs n e
    go (suc r) e = absurd (let z : suc r ≡ 0 = sym (ap Read.number (check-refused C p t c fs r e)) ∙ h in omega arith)

-- one field more, in front of others
module _ (C : Contents) (t : ℕ) (c k more : List ℕ) (at : ℕ) (n : t ≡ 4 → ⊥) (h : (check_fields C (fields_from (encoded_field t c ++ more) at 0)).number ≡ 0) where
  abbrev rest : Fields
  rest = fields_from more (at + 3 + length c) 0

  passes : check_fields C (fields_from (encoded_field t c ++ more) at 0) ≡ check_fields (added C t c) rest
  passes =
      let e = ap (check_fields C) (field-back t c more at) in
      e ∙ one-field C at t c rest n (sym (ap Read.number e) ∙ h)

  still : (check_fields (added C t c) rest).number ≡ 0
  still = sym (ap Read.number passes) ∙ h

  in-front : (ns n₀ : List (List ℕ)) (rs r₀ : List ℕ) (us u₀ : List Rule) → Went (added C t c) rest k ns rs us
      → (added C t c).names ≡ C.names ++ n₀ → (added C t c).ranks ≡ C.ranks ++ r₀ → (added C t c).rules ≡ C.rules ++ u₀
      → Went C (fields_from (encoded_field t c ++ more) at 0) k (n₀ ++ ns) (r₀ ++ rs) (u₀ ++ us)
  in-front ns n₀ rs r₀ us u₀ W en er eu =
      record {
        at = W.at;
        to = W.to;
        names = W.names ∙ ap (◌++ ns) en ∙ append_assoc C.names n₀ ns;
        ranks = W.ranks ∙ ap (◌++ rs) er ∙ append_assoc C.ranks r₀ rs;
        rules = W.rules ∙ ap (◌++ us) eu ∙ append_assoc C.rules u₀ us;
        goes = passes ∙ W.goes;
      }

-- nothing more
stays : (C : Contents) (k : List ℕ) (at : ℕ) → Went C (fields_from k at 0) k [] [] []
stays C k at = record { at = at; to = C; names = sym (append-nil C.names); ranks = sym (append-nil C.ranks); rules = sym (append-nil C.rules); goes = refl }

names-went : (ns : List (List ℕ)) (C : Contents) (k : List ℕ) (at : ℕ) → (check_fields C (fields_from (encoded_names ns k) at 0)).number ≡ 0 → Went C (fields_from (encoded_names ns k) at 0) k ns [] []
unfolding encoded_names added
names-went [] C k at h = stays C k at
names-went (a ∷ ns) C k at h =
    let more = encoded_names ns k in
    in-front C 1 a k more at (λ z. omega arith) h ns (a ∷ []) [] [] [] [] (names-went ns (added C 1 a) k (at + 3 + length a) (still C 1 a k more at (λ z. omega arith) h)) refl (sym (append-nil C.ranks)) (sym (append-nil C.rules))

ranks-went : (rs : List ℕ) (C : Contents) (k : List ℕ) (at : ℕ) → (check_fields C (fields_from (encoded_ranks rs k) at 0)).number ≡ 0 → Went C (fields_from (encoded_ranks rs k) at 0) k [] rs []
unfolding encoded_ranks added
ranks-went [] C k at h = stays C k at
ranks-went (n ∷ rs) C k at h =
    let more = encoded_ranks rs k in
    let c = n ∷ [] in
    in-front C 2 c k more at (λ z. omega arith) h [] [] rs c [] [] (ranks-went rs (added C 2 c) k (at + 3 + length c) (still C 2 c k more at (λ z. omega arith) h)) (sym (append-nil C.names)) refl (sym (append-nil C.rules))

rules-went : (us : List Rule) (C : Contents) (k : List ℕ) (at : ℕ) → Canonical us → (check_fields C (fields_from (encoded_rules us k) at 0)).number ≡ 0 → Went C (fields_from (encoded_rules us k) at 0) k [] [] us
unfolding encoded_rules added
rules-went [] C k at v h = stays C k at
rules-went (r ∷ us) C k at v h =
    let more = encoded_rules us k in
    let c = rule_content r in
    in-front C 3 c k more at (λ z. omega arith) h [] [] [] [] us (r ∷ []) (rules-went us (added C 3 c) k (at + 3 + length c) v.1 (still C 3 c k more at (λ z. omega arith) h))
    (sym (append-nil C.names)) (sym (append-nil C.ranks)) (ap (λ (u : Rule). C.rules ++ (u ∷ [])) (rule-back r v.0))

-- the theorem: what an accepted encoding reads as
pub record Reads-back (C D : Contents) : Type 0 where
  pub names : D.names ≡ C.names
  pub ranks : D.ranks ≡ C.ranks
  pub rules : D.rules ≡ C.rules

-- the end field
ended : (C : Contents) (at : ℕ) → (check_fields C (fields_from (encoded_field 4 []) at 0)).number ≡ 0 → (check_fields C (fields_from (encoded_field 4 []) at 0)).contents ≡ C
unfolding fields_from
ended C at h = go (refusal C.names C.ranks C.next 4 []) refl
  where
    last : check_fields C (fields_from (encoded_field 4 []) at 0) ≡ check_fields C (field at 4 [] (fields_from [] (at + 3 + 0) 0))
    last = ap (check_fields C) (field-back 4 [] [] at)

    go : (r : ℕ) → refusal C.names C.ranks C.next 4 [] ≡ r → (check_fields C (fields_from (encoded_field 4 []) at 0)).contents ≡ C
    go zero e = ap Read.contents (last ∙ check-end C at 4 [] (fields_from [] (at + 3 + 0) 0) refl e)
    go (suc r) e = absurd (let z : suc r ≡ 0 = sym (ap Read.number (last ∙ check-refused C at 4 [] (fields_from [] (at + 3 + 0) 0) r e)) ∙ h in omega arith)

module _ (C : Contents) (v : Canonical C.rules) where
  abbrev rules-on : List ℕ
  rules-on = encoded_rules C.rules (encoded_field 4 [])

  abbrev ranks-on : List ℕ
  ranks-on = encoded_ranks C.ranks rules-on

  back : (check_fields nothing (fields_from (encoded_names C.names ranks-on) 0 0)).number ≡ 0 → Reads-back C (check_fields nothing (fields_from (encoded_names C.names ranks-on) 0 0)).contents
  back h =
      let N = names-went C.names nothing ranks-on 0 h in
      let hn = sym (ap Read.number N.goes) ∙ h in
      let Q = ranks-went C.ranks N.to rules-on N.at hn in
      let hq = sym (ap Read.number Q.goes) ∙ hn in
      let U = rules-went C.rules Q.to (encoded_field 4 []) Q.at v hq in
      let hu = sym (ap Read.number U.goes) ∙ hq in
      let e = ap Read.contents (N.goes ∙ Q.goes ∙ U.goes) ∙ ended U.to U.at hu in
      record {
        names = ap Contents.names e ∙ U.names ∙ append-nil Q.to.names ∙ Q.names ∙ append-nil N.to.names ∙ N.names;
        ranks = ap Contents.ranks e ∙ U.ranks ∙ append-nil Q.to.ranks ∙ Q.ranks ∙ ap (◌++ C.ranks) (N.ranks);
        rules = ap Contents.rules e ∙ U.rules ∙ ap (◌++ C.rules) (Q.rules ∙ append-nil N.to.rules ∙ N.rules);
      }

  pub encoded_read : (read (encoded C)).number ≡ 0 → Reads-back C (read (encoded C)).contents
  unfolding encoded fields
  encoded_read h = go (leb (length (encoded C)) 32768) refl
    where
      go : (t : Bool) → leb (length (encoded C)) 32768 ≡ t → Reads-back C (read (encoded C)).contents
      go true m =
          let e = read-fields (encoded C) (leb-true (length (encoded C)) 32768 m) in
          subst (λ (r : Read). Reads-back C r.contents) (sym e) (back (sym (ap Read.number e) ∙ h))
      go false m = absurd (let z = ap (λ (p : ℕ × ℕ). p.0) (reading_long (encoded C) (leb-false (length (encoded C)) 32768 m)) in omega (arith, z, h))
