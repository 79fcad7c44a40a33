-- The names that are read of a table are names, and no two are the same; so the way back holds of every table. Assumes nothing.
--
--   named-read      of every list of bytes, accepted or not: the names before the field that is refused
--   way_back-read   the forest is got back from its bytes, with these names
use Rattle.std.proofs.Common.{ℕ, zero, suc, ◌≡◌, ◌<◌, refl, sym, ap, subst, ◌∙◌, Bool, true, false, cond, ◌&&◌, List, [], ◌∷◌, ◌++◌, length, get_or, T, length-append, arith}
use Rattle.std.proofs.Math.Dec.{eqb, leb, ltb}
use Rattle.std.proofs.lemmas.Bool.{eqb-true, eqb-false, ltb-true, ltb-false}
use Rattle.std.proofs.lemmas.List.{get_or_append_left, get_or_at}
use Rattle.meaning.specs.Event.{Event, finish, spelled}
use Rattle.meaning.specs.Forest.{Forest, written}
use Rattle.table.specs.Format.{is_name, same_bytes, counted, number_of, Fields, stop, cut, field, fields, Contents, nothing, rule_of, key, none_yet, name_refusal, refusal, added, Read, behind_end, check_fields, read}
use Rattle.table.proofs.Numbers.{same_refl}
use Rattle.table.proofs.Reading.{both, chosen, as-name, check-refused, check-end, check-on}
use Rattle.writer.specs.Back.{Named, Known, Reads}
use Rattle.writer.specs.Bytes.{bytes_of_stream}
use Rattle.writer.proofs.Back.{way_back}

-- a name's number stays when a name is added behind
number_kept : (b c : List ℕ) (names : List (List ℕ)) → number_of names b < length names → number_of (names ++ (c ∷ [])) b ≡ number_of names b
unfolding number_of
number_kept b c [] h = absurd (omega arith)
number_kept b c (a ∷ names) h = go (same_bytes a b) (number_kept b c names) h
  where
    go : (t : Bool) → (number_of names b < length names → number_of (names ++ (c ∷ [])) b ≡ number_of names b) → counted t (number_of names b) < suc (length names) → counted t (number_of (names ++ (c ∷ [])) b) ≡ counted t (number_of names b)
    go true k l = refl
    go false k l = ap suc (k (omega arith))

-- a new name's number is how many there were
number_new : (c : List ℕ) (names : List (List ℕ)) → number_of names c ≡ length names → number_of (names ++ (c ∷ [])) c ≡ length names
unfolding number_of
number_new c [] h = rw (same_refl c) refl
number_new c (a ∷ names) h = go (same_bytes a c) (number_new c names) h
  where
    go : (t : Bool) → (number_of names c ≡ length names → number_of (names ++ (c ∷ [])) c ≡ length names) → counted t (number_of names c) ≡ suc (length names) → counted t (number_of (names ++ (c ∷ [])) c) ≡ suc (length names)
    go true k l = absurd (omega arith)
    go false k l = ap suc (k (omega arith))

module _ (names : List (List ℕ)) (N : Named names) (c : List ℕ) (h : T (is_name c)) (e : number_of names c ≡ length names) where
  abbrev with : List (List ℕ)
  with = names ++ (c ∷ [])

  old_name : (n : ℕ) → n < length names → T (is_name (get_or with n [])) × (number_of with (get_or with n []) ≡ n)
  old_name n l =
      let z = N.once n l in
      rw (get_or_append_left names (c ∷ []) [] n l) (N.each n l, number_kept (get_or names n []) c names (omega arith) ∙ z)

  new_name : (n : ℕ) → length names ≡ n → T (is_name (get_or with n [])) × (number_of with (get_or with n []) ≡ n)
  new_name n z = rw (get_or_at names c [] [] n z) (h, number_new c names e ∙ z)

  each_name : (n : ℕ) → n < length with → T (is_name (get_or with n [])) × (number_of with (get_or with n []) ≡ n)
  each_name n l = go (ltb n (length names)) refl
    where
      go : (t : Bool) → ltb n (length names) ≡ t → T (is_name (get_or with n [])) × (number_of with (get_or with n []) ≡ n)
      go true f = old_name n (ltb-true n (length names) f)
      go false f = new_name n (omega (arith, ltb-false n (length names) f, length-append names (c ∷ []), l))

  named_push : Named with
  named_push = record { each = λ n l. (each_name n l).0; once = λ n l. (each_name n l).1 }

-- the contents with one field more that is not refused
module _ (C : Contents) (N : Named C.names) (t : ℕ) (c : List ℕ) (h : refusal C.names C.ranks C.next t c ≡ 0) where
  by_name : name_refusal C.names C.ranks c ≡ 0 → Named (C.names ++ (c ∷ []))
  unfolding name_refusal
  by_name h =
      let a = chosen (none_yet C.ranks && (is_name c && eqb (number_of C.names c) (length C.names))) _ 0 h in
      let b = both (is_name c) _ (both (none_yet C.ranks) _ a.0).1 in
      named_push C.names N c (rw b.0 tt) (eqb-true (number_of C.names c) (length C.names) b.1)

  named_added : Named (added C t c).names
  unfolding added
  named_added = go (eqb t 1) (eqb t 2) (eqb t 3) refl
    where
      go : (x y z : Bool) → eqb t 1 ≡ x → Named (cond x (record { names = C.names ++ (c ∷ []); ranks = C.ranks; rules = C.rules; next = C.next }) (cond y (record { names = C.names; ranks = C.ranks ++ (get_or c 0 0 ∷ []); rules = C.rules; next = C.next }) (cond z (record { names = C.names; ranks = C.ranks; rules = C.rules ++ (rule_of c ∷ []); next = suc (key (rule_of c)) }) C))).names
      go true y z e = by_name (sym (as-name C.names C.ranks C.next t c (eqb-true t 1 e)) ∙ h)
      go false true z e = N
      go false false true e = N
      go false false false e = N

abbrev Given : Read → Type 0
Given r = Named r.contents.names

named_end : (C : Contents) (fs : Fields) → Named C.names → Given (behind_end C fs)
named_end C (stop at) N = N
named_end C (cut at) N = N
named_end C (field at t c fs) N = N

named_field : (C : Contents) (p t : ℕ) (c : List ℕ) (fs : Fields) → Named C.names → ((D : Contents) → Named D.names → Given (check_fields D fs)) → Given (check_fields C (field p t c fs))
named_field C p t c fs N on = go (refusal C.names C.ranks C.next t c) refl (eqb t 4) refl
  where
    go : (n : ℕ) → refusal C.names C.ranks C.next t c ≡ n → (b : Bool) → eqb t 4 ≡ b → Given (check_fields C (field p t c fs))
    go zero e true f = subst Given (sym (check-end C p t c fs (eqb-true t 4 f) e)) (named_end C fs N)
    go zero e false f = subst Given (sym (check-on C p t c fs (eqb-false t 4 f) e)) (on (added C t c) (named_added C N t c e))
    go (suc r) e b f = subst Given (sym (check-refused C p t c fs r e)) N

named_fields : (fs : Fields) (C : Contents) → Named C.names → Given (check_fields C fs)
unfolding check_fields
named_fields (stop at) C N = N
named_fields (cut at) C N = N
named_fields (field p t c fs) C N = named_field C p t c fs N (λ D U. named_fields fs D U)

named_nothing : Named []
named_nothing = record { each = λ n l. absurd (omega arith); once = λ n l. absurd (omega arith) }

pub named-read : (l : List ℕ) → Named (read l).contents.names
unfolding read
named-read l = go (leb (length l) 32768)
  where
    go : (b : Bool) → Given (elim b [ true ↦ check_fields nothing (fields l) | false ↦ record { number = 2; place = 0; contents = nothing } ])
    go true = named_fields (fields l) nothing named_nothing
    go false = named_nothing

pub way_back-read : (l : List ℕ) (f : Forest) → Known (read l).contents.names f → (vs : List Event) → Reads (read l).contents.names (bytes_of_stream (read l).contents.names (written f)) vs → spelled (vs ++ (finish ∷ [])) 0 ≡ f
way_back-read l f h vs r = way_back (read l).contents.names (named-read l) f h vs r
