-- The loop of the check over a table's fields: what was read so far decides with what is left. Assumes nothing.
use Rattle.std.specs.Prelude.{Result, Ok, Err, IfOk}
use Rattle.table.specs.declared.parts.Parts.{Parts}
use Rattle.table.specs.declared.refusal.Refused.{Refused}
use Rattle.std.proofs.Common.{ℕ, zero, suc, ◌≡◌, ◌+◌, ◌*◌, ◌-◌, ◌≤◌, ◌<◌, refl, sym, subst, ap, ap₂, ◌∙◌, Bool, true, false, cond, not, ◌&&◌, List, [], ◌∷◌, ◌++◌, length, get_or, take, drop, Some, None, Option, add-zero, arith}
use Rattle.std.proofs.lemmas.Bool.{le-leb, lt-leb, leb-true, leb-false, eqb-true, eqb-false, ltb-true, eq-eqb, ne_eqb}
use Rattle.std.proofs.lemmas.List.{nil_from_length, drop-drop, get_or-drop, get_or-take, length-drop, length-take-le, drop-take}
use Rattle.std.proofs.lemmas.Option.{none-some}
use Rattle.std.proofs.Math.Dec.{leb, ltb, eqb}
use Rattle.table.specs.Format.{Fields, stop, cut, field, length_at, whole, fields_from, fields, Contents, nothing, rule_of, key, none_yet, is_name, number_of, name_refusal, state_refusal, rule_refusal, rule_holds, refusal, added, Read, behind_end, check_fields, read}
use Rattle.table.specs.Names.{name_at, names_at, ranks_at}
use Rattle.table.specs.Checked.{Has, cut_field, front_field, names_with, base_with, states_with, next_with}
use Rattle.table.specs.Tally.{refusal_number}
use Rattle.table.specs.declared.refusal.Refusal.{Refusal}
use Rattle.table.specs.declared.refusal.Refusal.TheVariants.{Form, Limit, Rule}
use Rattle.table.proofs.Naming.{length-names, length-ranks}

-- ---- fields one by one

-- the bytes of a field are passed
passed : (bs : List ℕ) (at n : ℕ) → n ≤ length bs → fields_from bs at n ≡ fields_from (drop n bs) (at + n) 0
unfolding fields_from
passed [] at zero h = ap stop (sym (add-zero at))
passed [] at (suc n) h = absurd (omega arith)
passed (b ∷ bs) at zero h = ap (λ (k : ℕ). fields_from (b ∷ bs) k 0) (sym (add-zero at))
passed (b ∷ bs) at (suc n) h = passed bs (suc at) n (omega arith) ∙ ap (λ (k : ℕ). fields_from (drop n bs) k 0) (let e : suc at + n ≡ at + suc n = omega arith in e)

-- the field at the front of bytes, its content, and where the next begins
pub record Front (bs : List ℕ) (t : ℕ) (c b : List ℕ) : Type 0 where
  pub long : length bs ≡ 3 + length c + length b
  pub behind : b ≡ drop (3 + length c) bs
  pub content : c ≡ take (length c) (drop 3 bs)
  pub size : get_or bs 1 0 * 256 + get_or bs 2 0 ≡ length c
  pub fields : (at : ℕ) → fields_from bs at 0 ≡ field at t c (fields_from b (at + 3 + length c) 0)

-- a field, or too few bytes for one
first-field : (x : ℕ) (bs : List ℕ) (at : ℕ) → fields_from (x ∷ bs) at 0 ≡ elim (whole bs) [ true ↦ field at x (take (length_at bs) (drop 2 bs)) (fields_from bs (suc at) (2 + length_at bs)) | false ↦ cut at ]
unfolding fields_from
first-field x bs at = refl

pub too-few : (x : ℕ) (bs : List ℕ) (at : ℕ) → length bs < 2 + length_at bs → fields_from (x ∷ bs) at 0 ≡ cut at
too-few x bs at h = let e : whole bs ≡ false = lt-leb (2 + length_at bs) (length bs) h in first-field x bs at ∙ rw e

module _ (x h l : ℕ) (k : List ℕ) where
  abbrev size : ℕ
  size = h * 256 + l

  pub enough : (at : ℕ) → size ≤ length k → fields_from (x ∷ h ∷ l ∷ k) at 0 ≡ field at x (take size k) (fields_from (drop size k) (at + 3 + size) 0)
  enough at m =
      let e : whole (h ∷ l ∷ k) ≡ true = le-leb (2 + size) (suc (suc (length k))) (omega (arith, m)) in
      first-field x (h ∷ l ∷ k) at
      ∙ rw e (ap (field at x (take size k)) (passed (h ∷ l ∷ k) (suc at) (2 + size) (omega (arith, m)) ∙ ap₂ (λ (d : List ℕ) (i : ℕ). fields_from d i 0) two (let f : suc at + (2 + size) ≡ at + 3 + size = omega arith in f)))
    where
      two : drop (2 + size) (h ∷ l ∷ k) ≡ drop size k
      two = ap (λ (i : ℕ). drop i (h ∷ l ∷ k)) (let e : 2 + size ≡ suc (suc size) = omega arith in e)

  whole-field : size ≤ length k → Front (x ∷ h ∷ l ∷ k) x (take size k) (drop size k)
  whole-field m =
      record {
        long = omega (arith, taken, length-drop size k);
        behind = ap (λ (i : ℕ). drop i (x ∷ h ∷ l ∷ k)) (let e : suc (suc (suc size)) ≡ 3 + length (take size k) = omega (arith, taken) in e);
        content = ap (λ (i : ℕ). take i k) (sym taken);
        size = sym taken;
        fields = λ at. enough at m ∙ ap (λ (i : ℕ). field at x (take size k) (fields_from (drop size k) (at + 3 + i) 0)) (sym taken);
      }
    where
      taken : length (take size k) ≡ size
      taken = length-take-le size k m

  cut-front : (t : ℕ) (c b : List ℕ) → cut_field x size k ≡ Some (t, c, b) → Front (x ∷ h ∷ l ∷ k) t c b
  cut-front t c b e = go (leb size (length k)) refl
    where
      go : (s : Bool) → leb size (length k) ≡ s → Front (x ∷ h ∷ l ∷ k) t c b
      go true m =
          let f : ◌≡◌ {A = Option (ℕ × List ℕ × List ℕ)} (Some (x, take size k, drop size k)) (Some (t, c, b)) = rw m at e in
          let w : Front (x ∷ h ∷ l ∷ k) x (take size k) (drop size k) = whole-field (leb-true size (length k) m) in
          let p : ◌≡◌ {A = ℕ × List ℕ × List ℕ} (x, take size k, drop size k) (t, c, b) = cc f in
          subst (λ (q : ℕ × List ℕ × List ℕ). Front (x ∷ h ∷ l ∷ k) q.0 q.1 q.2) p w
      go false m = absurd (none-some (t, c, b) (rw m at e))

  cut-none : (at : ℕ) → cut_field x size k ≡ None → fields_from (x ∷ h ∷ l ∷ k) at 0 ≡ cut at
  cut-none at e = go (leb size (length k)) refl
    where
      go : (s : Bool) → leb size (length k) ≡ s → fields_from (x ∷ h ∷ l ∷ k) at 0 ≡ cut at
      go true m = absurd (none-some (x, take size k, drop size k) (sym (rw m at e)))
      go false m = too-few x (h ∷ l ∷ k) at (omega (arith, leb-false size (length k) m))

pub front_is : (bs : List ℕ) (t : ℕ) (c b : List ℕ) → front_field bs ≡ Some (t, c, b) → Front bs t c b
front_is [] t c b e = cc
front_is (x ∷ []) t c b e = cc
front_is (x ∷ h ∷ []) t c b e = cc
front_is (x ∷ h ∷ l ∷ k) t c b e = cut-front x h l k t c b e

-- too few bytes
pub front_none : (bs : List ℕ) (at : ℕ) → 0 < length bs → front_field bs ≡ None → fields_from bs at 0 ≡ cut at
front_none [] at h e = absurd (omega arith)
front_none (x ∷ []) at h e = too-few x [] at (omega arith)
front_none (x ∷ y ∷ []) at h e = too-few x (y ∷ []) at (omega arith)
front_none (x ∷ y ∷ l ∷ k) at h e = cut-none x y l k at e

-- ---- names and states one more

-- where the field behind k names begins
unfoldable pub after : List ℕ → (at k : ℕ) → ℕ
after l at zero = at
after l at (suc k) = after l (at + 3 + get_or l (at + 2) 0) k

module _ (l : List ℕ) where
  after_more : (k at : ℕ) → after l at (suc k) ≡ after l at k + 3 + get_or l (after l at k + 2) 0
  unfolding after
  after_more zero at = refl
  after_more (suc k) at = after_more k (at + 3 + get_or l (at + 2) 0)

  names_more : (k at : ℕ) → names_at l at (suc k) ≡ names_at l at k ++ (name_at l (after l at k) ∷ [])
  unfolding names_at after
  names_more zero at = refl
  names_more (suc k) at = ap (name_at l at ∷◌) (names_more k (at + 3 + get_or l (at + 2) 0))

  ranks_more : (k at : ℕ) → ranks_at l at (suc k) ≡ ranks_at l at k ++ (get_or l (at + 4 * k + 3) 0 ∷ [])
  unfolding ranks_at
  ranks_more zero at = ap (λ (i : ℕ). get_or l i 0 ∷ []) (let e : at + 3 ≡ at + 4 * 0 + 3 = omega arith in e)
  ranks_more (suc k) at = ap (get_or l (at + 3) 0 ∷◌) (ranks_more k (at + 4) ∙ ap (λ (i : ℕ). ranks_at l (at + 4) k ++ (get_or l i 0 ∷ [])) (let e : at + 4 + 4 * k + 3 ≡ at + 4 * suc k + 3 = omega arith in e))

-- ---- what an accepted field says

pub both : (a b : Bool) → (a && b) ≡ true → (a ≡ true) × (b ≡ true)
both true b h = (refl, h)
both false b h = let z : ◌≡◌ {A = ℕ} 0 1 = cc in absurd (omega arith)

-- a choice between 0 and something else is 0
pub chosen : (a : Bool) (x y : ℕ) → cond a x (suc y) ≡ 0 → (a ≡ true) × (x ≡ 0)
chosen true x y h = (refl, h)
chosen false x y h = absurd (omega arith)

pub yet-none : (l : List ℕ) → none_yet l ≡ true → length l ≡ 0
yet-none [] h = refl
yet-none (x ∷ l) h = let z : ◌≡◌ {A = ℕ} 0 1 = cc in absurd (omega arith)

pub yet-some : (l : List ℕ) → not (none_yet l) ≡ true → 0 < length l
yet-some [] h = let z : ◌≡◌ {A = ℕ} 0 1 = cc in absurd (omega arith)
yet-some (x ∷ l) h = omega arith

name_short : (c : List ℕ) → is_name c ≡ true → length c ≤ 32
name_short [] h = omega arith
name_short (b ∷ bs) h = omega (arith, ltb-true (length bs) 32 (both _ _ (both _ _ h).1).1)

module _ (names : List (List ℕ)) (ranks : List ℕ) (k : ℕ) (c : List ℕ) where
  pub record Name : Type 0 where
    pub none : length ranks ≡ 0
    pub short : length c ≤ 32
    pub room : length names < 128

  pub name_accepted : name_refusal names ranks c ≡ 0 → Name
  unfolding name_refusal
  name_accepted h =
      let a = chosen (none_yet ranks && (is_name c && eqb (number_of names c) (length names))) _ 0 h in
      let b = both (none_yet ranks) _ a.0 in
      record { none = yet-none ranks b.0; short = name_short c (both _ _ b.1).0; room = ltb-true _ _ (chosen (ltb (length names) 128) 0 1 a.1).0 }

  pub record State : Type 0 where
    pub first : k ≡ 0
    pub one : length c ≡ 1
    pub room : length ranks < 64

  pub state_accepted : state_refusal ranks k c ≡ 0 → State
  unfolding state_refusal
  state_accepted h =
      let a = chosen (eqb k 0 && (eqb (length c) 1 && leb (get_or c 0 0) 4)) _ 0 h in
      let b = both (eqb k 0) _ a.0 in
      record { first = eqb-true k 0 b.0; one = eqb-true _ _ (both _ _ b.1).0; room = ltb-true _ _ (chosen (ltb (length ranks) 64) 0 1 a.1).0 }

  pub record A-rule : Type 0 where
    pub some : 0 < length ranks
    pub holds : rule_holds c ≡ true

  pub rule_accepted : (n : ℕ) → rule_refusal n ranks k c ≡ 0 → A-rule
  unfolding rule_refusal
  rule_accepted n h =
      let a = chosen (not (none_yet ranks) && rule_holds c) _ 0 h in
      let b = both (not (none_yet ranks)) _ a.0 in
      record { some = yet-some ranks b.0; holds = b.1 }

-- which of the four a field is
module _ (names : List (List ℕ)) (ranks : List ℕ) (k t : ℕ) (c : List ℕ) where
  pub as-name : t ≡ 1 → refusal names ranks k t c ≡ name_refusal names ranks c
  unfolding refusal
  as-name o = rw (eq-eqb t 1 o)

  pub as-state : t ≡ 2 → refusal names ranks k t c ≡ state_refusal ranks k c
  unfolding refusal
  as-state o = rw (ne_eqb t 1 (λ z. omega arith), eq-eqb t 2 o)

  pub as-rule : t ≡ 3 → refusal names ranks k t c ≡ rule_refusal (length names) ranks k c
  unfolding refusal
  as-rule o = rw (ne_eqb t 1 (λ z. omega arith), ne_eqb t 2 (λ z. omega arith), eq-eqb t 3 o)

  pub as-none : (t ≡ 1 → ⊥) → (t ≡ 2 → ⊥) → (t ≡ 3 → ⊥) → (t ≡ 4 → ⊥) → refusal names ranks k t c ≡ 1
  unfolding refusal
  as-none n1 n2 n3 n4 = rw (ne_eqb t 1 n1, ne_eqb t 2 n2, ne_eqb t 3 n3, ne_eqb t 4 n4)

-- ---- the loop

-- the bytes rest are left of the table l; before them stand n names and s states, from b on, and a rule's key must be k or more
pub record Reading (l rest : List ℕ) (n b s k : ℕ) : Type 0 where
  pub contents : Contents
  pub high : length rest ≤ length l
  pub suffix : rest ≡ drop (length l - length rest) l
  pub few : n ≤ 128
  pub some : s ≤ 64
  pub base : b ≤ length l
  pub names : contents.names ≡ names_at l 0 n
  pub ranks : contents.ranks ≡ ranks_at (drop b l) 0 s
  pub next : contents.next ≡ k
  pub first : s ≡ 0 → after l 0 n ≡ length l - length rest
  pub then : 0 < s → k ≡ 0 → b + 4 * s ≡ length l - length rest
  pub decides : check_fields contents (fields_from rest (length l - length rest) 0) ≡ check_fields nothing (fields l)

-- one field of the check
module _ (C : Contents) (p t : ℕ) (c : List ℕ) (fs : Fields) where
  pub check-refused : (r : ℕ) → refusal C.names C.ranks C.next t c ≡ suc r → check_fields C (field p t c fs) ≡ record { number = suc r; place = p; contents = C }
  unfolding check_fields
  check-refused r e = rw (e, check_fields)

  pub check-end : t ≡ 4 → refusal C.names C.ranks C.next t c ≡ 0 → check_fields C (field p t c fs) ≡ behind_end C fs
  unfolding check_fields
  check-end z e = rw (e, eq-eqb t 4 z, check_fields)

  pub check-on : (t ≡ 4 → ⊥) → refusal C.names C.ranks C.next t c ≡ 0 → check_fields C (field p t c fs) ≡ check_fields (added C t c) fs
  unfolding check_fields
  check-on z e = rw (e, ne_eqb t 4 z, check_fields)

-- behind the end field
pub behind-end : (C : Contents) (d : List ℕ) (p : ℕ) → ◌≡◌ {A = ℕ × ℕ} ((behind_end C (fields_from d p 0)).number, (behind_end C (fields_from d p 0)).place) (cond (eqb (length d) 0) 0 1, p)
unfolding fields_from
behind-end C [] p = refl
behind-end C (x ∷ d) p = go (whole d) (first-field x d p) ∙ ap (λ (t : Bool). (cond t 0 1, p)) (sym (ne_eqb (suc (length d)) 0 (λ z. omega arith)))
  where
    go : (t : Bool) → fields_from (x ∷ d) p 0 ≡ elim t [ true ↦ field p x (take (length_at d) (drop 2 d)) (fields_from d (suc p) (2 + length_at d)) | false ↦ cut p ]
        → ◌≡◌ {A = ℕ × ℕ} ((behind_end C (fields_from (x ∷ d) p 0)).number, (behind_end C (fields_from (x ∷ d) p 0)).place) (1, p)
    go true e = ap (λ (f : Fields). ((behind_end C f).number, (behind_end C f).place)) e
    go false e = ap (λ (f : Fields). ((behind_end C f).number, (behind_end C f).place)) e

-- number and place
abbrev pub outcome : List ℕ → ℕ × ℕ
outcome l = ((read l).number, (read l).place)

module _ (l : List ℕ) (h : length l ≤ 32768) where
  pub read-fields : read l ≡ check_fields nothing (fields l)
  unfolding read
  read-fields = rw (le-leb (length l) 32768 h, read)

  -- what a field leads to is the table's
  leads : (rest : List ℕ) (n b s k : ℕ) (R : Reading l rest n b s k) (r : Read) → check_fields R.contents (fields_from rest (length l - length rest) 0) ≡ r → (r.number, r.place) ≡ outcome l
  leads rest n b s k R r e = ap (λ (r : Read). (r.number, r.place)) (sym e ∙ R.decides ∙ sym read-fields)

pub reading_start : (l : List ℕ) → Reading l l 0 0 0 0
unfolding names_at ranks_at after fields
reading_start l =
    record {
      contents = nothing;
      high = omega arith;
      suffix = ap (λ (i : ℕ). drop i l) (let e : 0 ≡ length l - length l = omega arith in e);
      few = omega arith;
      some = omega arith;
      base = omega arith;
      names = refl;
      ranks = refl;
      next = refl;
      first = λ z. omega arith;
      then = λ z. absurd (omega arith);
      decides = ap (λ (i : ℕ). check_fields nothing (fields_from l i 0)) (let e : length l - length l ≡ 0 = omega arith in e);
    }

module _ (l rest : List ℕ) (n b s k : ℕ) (R : Reading l rest n b s k) where
  abbrev place : ℕ
  place = length l - length rest

  abbrev refused-by : ℕ → List ℕ → ℕ
  refused-by t c = refusal (names_at l 0 n) (ranks_at (drop b l) 0 s) k t c

  same-refusal : (t : ℕ) (c : List ℕ) → refusal R.contents.names R.contents.ranks R.contents.next t c ≡ refused-by t c
  same-refusal t c = rw (R.names, R.ranks, R.next)

  module _ (h : length l ≤ 32768) where
    -- no field is left
    pub reading_stop : length rest ≡ 0 → (1, length l) ≡ outcome l
    unfolding fields_from check_fields
    reading_stop z =
        ap (λ (p : ℕ). (1, p)) (let e : length l ≡ place = omega arith in e)
        ∙ leads l h rest n b s k R (record { number = 1; place = place; contents = R.contents }) (ap (λ (d : List ℕ). check_fields R.contents (fields_from d place 0)) (nil_from_length rest z))

    -- fewer bytes than a field has
    pub reading_cut : 0 < length rest → front_field rest ≡ None → (1, place) ≡ outcome l
    unfolding check_fields
    reading_cut z e = leads l h rest n b s k R (record { number = 1; place = place; contents = R.contents }) (ap (check_fields R.contents) (front_none rest place z e))

  module _ (t : ℕ) (c d : List ℕ) (e : front_field rest ≡ Some (t, c, d)) where
    abbrev front : Front rest t c d
    front = front_is rest t c d e

    abbrev behind : Fields
    behind = fields_from d (place + 3 + length c) 0

    step : check_fields R.contents (fields_from rest place 0) ≡ check_fields R.contents (field place t c behind)
    step = ap (check_fields R.contents) (front.fields place)

    further : length l - length d ≡ place + 3 + length c
    further = omega (arith, front.long, R.high)

    -- the field is refused
    pub reading_refused : length l ≤ 32768 → (r : ℕ) → refused-by t c ≡ suc r → (suc r, place) ≡ outcome l
    reading_refused h r f = leads l h rest n b s k R (record { number = suc r; place = place; contents = R.contents }) (step ∙ check-refused R.contents place t c behind r (same-refusal t c ∙ f))

    pub reading_why : length l ≤ 32768 → (w : Refusal) → refused-by t c ≡ refusal_number w → (refusal_number w, place) ≡ outcome l
    reading_why h Form f = reading_refused h 0 f
    reading_why h Limit f = reading_refused h 1 f
    reading_why h Rule f = reading_refused h 2 f

    -- it is the end
    pub reading_end : length l ≤ 32768 → t ≡ 4 → refused-by t c ≡ 0 → (cond (eqb (length d) 0) 0 1, length l - length d) ≡ outcome l
    reading_end h z f =
        ap (λ (p : ℕ). (cond (eqb (length d) 0) 0 1, p)) further
        ∙ sym (behind-end R.contents d (place + 3 + length c))
        ∙ leads l h rest n b s k R (behind_end R.contents behind) (step ∙ check-end R.contents place t c behind z (same-refusal t c ∙ f))

    -- and then what was read is all
    ended-with : (C : Contents) (fs : Fields) → (behind_end C fs).contents ≡ C
    ended-with C (stop p) = refl
    ended-with C (cut p) = refl
    ended-with C (field p x y fs) = refl

    pub reading_all : length l ≤ 32768 → t ≡ 4 → refused-by t c ≡ 0 → (read l).contents ≡ R.contents
    reading_all h z f =
        ap Read.contents (read-fields l h ∙ sym R.decides ∙ step ∙ check-end R.contents place t c behind z (same-refusal t c ∙ f)) ∙ ended-with R.contents behind

    -- it is another, and the loop goes on
    module _ (z : t ≡ 4 → ⊥) (f : refused-by t c ≡ 0) where
      on : check_fields (added R.contents t c) (fields_from d (length l - length d) 0) ≡ check_fields nothing (fields l)
      on = ap (λ (i : ℕ). check_fields (added R.contents t c) (fields_from d i 0)) further ∙ sym (step ∙ check-on R.contents place t c behind z (same-refusal t c ∙ f)) ∙ R.decides

      left-of : d ≡ drop (length l - length d) l
      left-of =
          front.behind ∙ ap (drop (3 + length c)) R.suffix ∙ drop-drop (3 + length c) place l
          ∙ ap (λ (i : ℕ). drop i l) (let e : place + (3 + length c) ≡ length l - length d = omega (arith, further) in e)

      -- a byte of the field, by its place in the table
      byte : (i : ℕ) → get_or rest i 0 ≡ get_or l (place + i) 0
      byte i = ap (λ (k : List ℕ). get_or k i 0) R.suffix ∙ get_or-drop place l i 0

      content-at : c ≡ take (length c) (drop (place + 3) l)
      content-at = front.content ∙ ap (take (length c)) (ap (drop 3) R.suffix ∙ drop-drop 3 place l)

      abbrev names-now : List (List ℕ)
      names-now = names_at l 0 n

      abbrev ranks-now : List ℕ
      ranks-now = ranks_at (drop b l) 0 s

      is-name : t ≡ 1 → Reading l d (n + 1) b s k
      unfolding added name_at
      is-name o =
          let N : Name names-now ranks-now k c = name_accepted names-now ranks-now k c (sym (as-name names-now ranks-now k t c o) ∙ f) in
          let none : s ≡ 0 = omega (arith, N.none, length-ranks (drop b l) 0 s) in
          let here : after l 0 n ≡ place = R.first none in
          let long : get_or l (place + 2) 0 ≡ length c = omega (arith, front.size, N.short, byte 2, byte 1) in
          let named : c ≡ name_at l (after l 0 n) = content-at ∙ rw (here, long, drop-take (place + 3) (length c) l) in
          let A : ◌≡◌ {A = Contents} (record { names = R.contents.names ++ (c ∷ []); ranks = R.contents.ranks; rules = R.contents.rules; next = R.contents.next }) (added R.contents t c) = rw (eq-eqb t 1 o) in
          record {
            contents = record { names = R.contents.names ++ (c ∷ []); ranks = R.contents.ranks; rules = R.contents.rules; next = R.contents.next };
            high = omega (arith, front.long, R.high);
            suffix = left-of;
            few = omega (arith, N.room, length-names l 0 n);
            some = R.some;
            base = R.base;
            names = rw (R.names, named) (sym (names_more l n 0) ∙ ap (names_at l 0) (let e : suc n ≡ n + 1 = omega arith in e));
            ranks = R.ranks;
            next = R.next;
            first = λ y. ap (after l 0) (let e : n + 1 ≡ suc n = omega arith in e) ∙ after_more l n 0 ∙ rw (here, long) (sym further);
            then = λ y. absurd (omega arith);
            decides = ap (λ (C : Contents). check_fields C (fields_from d (length l - length d) 0)) A ∙ on;
          }

      is-state : t ≡ 2 → Reading l d n (cond (eqb s 0) place b) (s + 1) k
      unfolding added ranks_at
      is-state o = go (eqb s 0) refl
        where
          S : State names-now ranks-now k c
          S = state_accepted names-now ranks-now k c (sym (as-state names-now ranks-now k t c o) ∙ f)

          now : Contents
          now = record { names = R.contents.names; ranks = R.contents.ranks ++ (get_or c 0 0 ∷ []); rules = R.contents.rules; next = R.contents.next }

          A : now ≡ added R.contents t c
          A = rw (ne_eqb t 1 (λ z. omega arith), eq-eqb t 2 o)

          value : get_or c 0 0 ≡ get_or l (place + 3) 0
          value =
              ap (λ (x : List ℕ). get_or x 0 0) content-at ∙ get_or-take (length c) (drop (place + 3) l) 0 0 (omega (arith, S.one))
              ∙ get_or-drop (place + 3) l 0 0
              ∙ ap (λ (i : ℕ). get_or l i 0) (add-zero (place + 3))

          one-more : (b' : ℕ) → b' ≤ length l → R.contents.ranks ++ (get_or c 0 0 ∷ []) ≡ ranks_at (drop b' l) 0 (suc s) → b' + 4 * s ≡ place → Reading l d n b' (s + 1) k
          one-more b' w e p =
              record {
                contents = now;
                high = omega (arith, front.long, R.high);
                suffix = left-of;
                few = R.few;
                some = omega (arith, S.room, length-ranks (drop b l) 0 s);
                base = w;
                names = R.names;
                ranks = e ∙ ap (ranks_at (drop b' l) 0) (let y : suc s ≡ s + 1 = omega arith in y);
                next = R.next;
                first = λ y. absurd (omega arith);
                then = λ y x. omega (arith, further, S.one, p);
                decides = ap (λ (C : Contents). check_fields C (fields_from d (length l - length d) 0)) A ∙ on;
              }

          go : (q : Bool) → eqb s 0 ≡ q → Reading l d n (cond q place b) (s + 1) k
          go true q =
              let none : s ≡ 0 = eqb-true s 0 q in
              let e : R.contents.ranks ≡ [] = R.ranks ∙ ap (ranks_at (drop b l) 0) none in
              one-more place (omega arith)
              (rw (e, value) (ap (λ (i : ℕ). i ∷ []) (ap (λ (i : ℕ). get_or l i 0) refl ∙ sym (get_or-drop place l 3 0)) ∙ ap (ranks_at (drop place l) 0) (let y : 1 ≡ suc s = omega arith in y)))
              (omega arith)
          go false q =
              let some : 0 < s = omega (arith, eqb-false s 0 q) in
              let p : b + 4 * s ≡ place = R.then some S.first in
              one-more b R.base
              (rw (R.ranks, value)
              (ap (λ (i : ℕ). ranks-now ++ (i ∷ []))
              (ap (λ (i : ℕ). get_or l i 0) (let y : place + 3 ≡ b + (0 + 4 * s + 3) = omega (arith, p) in y) ∙ sym (get_or-drop b l (0 + 4 * s + 3) 0))
              ∙ sym (ranks_more (drop b l) s 0)))
              p

      is-rule : t ≡ 3 → Reading l d n b s (next_with 3 c k)
      unfolding added
      is-rule o =
          record {
            contents = now;
            high = omega (arith, front.long, R.high);
            suffix = left-of;
            few = R.few;
            some = R.some;
            base = R.base;
            names = R.names;
            ranks = R.ranks;
            next = rw rule.holds;
            first = λ y. absurd (omega (arith, rule.some, length-ranks (drop b l) 0 s));
            then = λ y x. absurd (let w : suc (key (rule_of c)) ≡ 0 = rw rule.holds at x in omega arith);
            decides = ap (λ (C : Contents). check_fields C (fields_from d (length l - length d) 0)) A ∙ on;
          }
        where
          rule : A-rule names-now ranks-now k c
          rule = rule_accepted names-now ranks-now k c (length names-now) (sym (as-rule names-now ranks-now k t c o) ∙ f)

          now : Contents
          now = record { names = R.contents.names; ranks = R.contents.ranks; rules = R.contents.rules ++ (rule_of c ∷ []); next = suc (key (rule_of c)) }

          A : now ≡ added R.contents t c
          A = rw (ne_eqb t 1 (λ z. omega arith), ne_eqb t 2 (λ z. omega arith), eq-eqb t 3 o)

      abbrev Then : ℕ → Type 0
      Then t = Reading l d (names_with t n) (base_with t place s b) (states_with t s) (next_with t c k)

      by-tag : (p q r : Bool) → eqb t 1 ≡ p → eqb t 2 ≡ q → eqb t 3 ≡ r → Then t
      by-tag true q r e1 e2 e3 = let o = eqb-true t 1 e1 in subst Then (sym o) (is-name o)
      by-tag false true r e1 e2 e3 = let o = eqb-true t 2 e2 in subst Then (sym o) (is-state o)
      by-tag false false true e1 e2 e3 = let o = eqb-true t 3 e3 in subst Then (sym o) (is-rule o)
      by-tag false false false e1 e2 e3 = absurd (let w = as-none names-now ranks-now k t c (eqb-false t 1 e1) (eqb-false t 2 e2) (eqb-false t 3 e3) z in omega (arith, w, f))

      -- there was room for it
      pub reading_names : t ≡ 1 → n < 128
      reading_names o = omega (arith, (name_accepted names-now ranks-now k c (sym (as-name names-now ranks-now k t c o) ∙ f)).room, length-names l 0 n)

      pub reading_states : t ≡ 2 → s < 64
      reading_states o = omega (arith, (state_accepted names-now ranks-now k c (sym (as-state names-now ranks-now k t c o) ∙ f)).room, length-ranks (drop b l) 0 s)

      pub reading_more : Then t
      reading_more = by-tag (eqb t 1) (eqb t 2) (eqb t 3) refl refl refl

      pub reading_shorter : length d < length rest
      reading_shorter = omega (arith, front.long)

-- an answer that accepts has the parts that were read
pub has-of : (l : List ℕ) (q : Parts) → Has l q → (r : Result Parts Refused) → IfOk r (λ p. p ≡ q) → IfOk r (Has l)
has-of l q h (Ok p) e = subst (Has l) (sym e) h
has-of l q h (Err r) e = tt

-- a table that is too long
pub reading_long : (l : List ℕ) → 32768 < length l → (2, 0) ≡ outcome l
unfolding read
reading_long l h = rw (lt-leb (length l) 32768 h, read)

-- what the check uses to prove the loop over the fields
pub ruleset reading_laws = (reading_start, reading_long, reading_stop, reading_names, reading_states, reading_more, reading_shorter)
