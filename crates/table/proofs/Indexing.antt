-- The index of a table: what it has after each field, and that it is the table's in the end. Assumes nothing.
use Rattle.std.proofs.Common.{None, Some, inl, inr, ℕ, zero, suc, ◌≡◌, ◌+◌, ◌*◌, ◌-◌, ◌≤◌, ◌<◌, refl, sym, subst, ap, ◌∙◌, Bool, true, false, cond, not, ◌&&◌, ◌||◌, List, [], ◌∷◌, ◌++◌, length, get_or, take, drop, arith, rules}
use Rattle.std.proofs.lemmas.Bool.{cases_eq, cases_lt, lt-leb, leb-true, leb-false, lt-ltb, le-ltb, eqb-true, eqb-false, ltb-true, ltb-false, eq-eqb, ne_eqb}
use Rattle.std.proofs.lemmas.Bool.Decides.{nat_tests}
use Rattle.std.proofs.lemmas.List.{nil_from_length, get_or-drop, get_or-take, length-append, get_or_at, get_or_append_left, get_or_past, drop-drop, drop-take, places}
use borrow.Rule.Slice.PartMut.{put_mid, mid_of}
use lib.Dec.{leb, ltb, eqb}
use Rattle.std.proofs.Math.Option.{Option, none, some}
use Rattle.std.proofs.Math.Seq.{slice}
use Rattle.meaning.specs.Rules.{Match, on_empty, on_element, on_character}
use Rattle.table.specs.Format.{none_yet, Fields, stop, cut, field, fields_from, fields, rule_of, rule_holds, rule_known, rule_refusal, refusal, added, nothing, Read, behind_end, check_fields, read, Rule, key, Contents}
use Rattle.table.specs.Checked.{front_field}
use Rattle.table.specs.Names.{name_at}
use Rattle.table.specs.Rules.{is_rule, picked, or_else, or_empty, rule_for}
use Rattle.table.specs.Index.{names_in, states_in, slot_of, side_from, side_to, RuleAt, NameAt, known, rank_in, Indexed}
use Rattle.table.specs.Indexing.{slots, KnownRule, noted_rule, noted_name, noted_state, noted}
use Rattle.table.proofs.Reading.{both, chosen, Front, front_is, front_none, Name, State, A-rule, name_accepted, state_accepted, rule_accepted, as-name, as-state, as-rule, as-none, check-refused, check-end, check-on, read-fields, reading_long}

-- ---- a part of the words filled where nothing stands

pub filled : (xs ys : List ℕ) (a e at : ℕ) → a ≤ e → e ≤ length xs → length ys ≡ e - a
    → ((k : ℕ) → k < length (mid_of a (e - a) xs) → get_or ys k 0 ≡ cond (eqb (get_or (mid_of a (e - a) xs) k 0) 0) at (get_or (mid_of a (e - a) xs) k 0))
    → (k : ℕ) → get_or (put_mid a (e - a) xs ys) k 0 ≡ cond (leb a k && (ltb k e && eqb (get_or xs k 0) 0)) at (get_or xs k 0)
filled xs ys a e at h1 h2 n h k = go (leb a k) (ltb k e) refl refl
  where
    go : (p q : Bool) → leb a k ≡ p → ltb k e ≡ q → get_or (put_mid a (e - a) xs ys) k 0 ≡ cond (p && (q && eqb (get_or xs k 0) 0)) at (get_or xs k 0)
    go false q i j = let w : k < a = leb-false a k i in search (rules, places)
    go true false i j = let w : e ≤ k = ltb-false k e j in let v : a ≤ k = leb-true a k i in search (rules, places)
    go true true i j =
        let w : k < e = ltb-true k e j in
        let v : a ≤ k = leb-true a k i in
        let f : get_or (put_mid a (e - a) xs ys) k 0 ≡ get_or ys (k - a) 0 = search (rules, places) in
        let g : get_or (mid_of a (e - a) xs) (k - a) 0 ≡ get_or xs k 0 = search (rules, places) in
        let m : k - a < length (mid_of a (e - a) xs) = search (rules, places) in
        f ∙ h (k - a) m ∙ ap (λ (x : ℕ). cond (eqb x 0) at x) g

-- ---- rules by their keys

abbrev pub Below : List Rule → ℕ → Type 0
Below [] k = Unit {0}
Below (r ∷ rs) k = (key r < k) × Below rs k

below_more : (rs : List Rule) (r : Rule) (k : ℕ) → Below rs k → k ≤ key r → Below (rs ++ (r ∷ [])) (suc (key r))
below_more [] r k b h = (omega arith, tt)
below_more (x ∷ rs) r k b h = (omega (arith, b.0), below_more rs r k b.1 h)

-- no rule with a key that is not below
picked_none : (rs : List Rule) (k q p n : ℕ) → Below rs k → k ≤ q * 1024 + p * 256 + n → picked rs q p n ≡ none
unfolding picked
picked_none [] k q p n b h = refl
picked_none (r ∷ rs) k q p n b h = go (picked_none rs k q p n b.1 h) (is_rule q p n r) refl
  where
    go : picked rs q p n ≡ none → (t : Bool) → is_rule q p n r ≡ t → picked (r ∷ rs) q p n ≡ none
    go i true e =
        let x = both (eqb r.state q) _ e in
        let y = both (eqb r.pattern p) _ x.1 in
        absurd (omega (arith, eqb-true r.state q x.0, eqb-true r.pattern p y.0, eqb-true r.name n y.1, b.0))
    go i false e = rw (e, picked) i

picked_more : (rs : List Rule) (r : Rule) (q p n : ℕ) → picked (rs ++ (r ∷ [])) q p n ≡ or_else (picked rs q p n) (cond (is_rule q p n r) (some r.side) none)
unfolding picked
picked_more [] r q p n = go (is_rule q p n r) refl
  where
    go : (t : Bool) → is_rule q p n r ≡ t → picked (r ∷ []) q p n ≡ cond (is_rule q p n r) (some r.side) none
    go true e = rw (e, picked) refl
    go false e = rw (e, picked) refl
picked_more (x ∷ rs) r q p n = go (picked_more rs r q p n) (is_rule q p n x) refl
  where
    go : picked (rs ++ (r ∷ [])) q p n ≡ or_else (picked rs q p n) (cond (is_rule q p n r) (some r.side) none)
        → (t : Bool) → is_rule q p n x ≡ t → picked (x ∷ (rs ++ (r ∷ []))) q p n ≡ or_else (picked (x ∷ rs) q p n) (cond (is_rule q p n r) (some r.side) none)
    go i true e = rw (e, picked) refl
    go i false e = rw (e, picked) i

-- a rule is one for what is matched in a state
abbrev pub hit : Rule → ℕ → Match → Bool
hit r q on_empty = is_rule q 0 0 r
hit r q (on_element n) = is_rule q 1 n r || is_rule q 2 0 r
hit r q on_character = is_rule q 3 0 r

abbrev pub small : Match → Type 0
small on_empty = Unit {0}
small (on_element n) = n < 128
small on_character = Unit {0}

rule_more : (rs : List Rule) (r : Rule) (k q : ℕ) (m : Match) → Below rs k → k ≤ key r → small m → rule_for (rs ++ (r ∷ [])) q m ≡ or_else (rule_for rs q m) (cond (hit r q m) (some r.side) none)
rule_more rs r k q on_empty b h s = picked_more rs r q 0 0
rule_more rs r k q on_character b h s = picked_more rs r q 3 0
rule_more rs r k q (on_element n) b h s = rw (picked_more rs r q 1 n, picked_more rs r q 2 0) (go (is_rule q 1 n r) (is_rule q 2 0 r) (picked rs q 1 n) (picked rs q 2 0) none-yet)
  where
    none-yet : is_rule q 1 n r ≡ true → picked rs q 2 0 ≡ none
    none-yet e =
        let x = both (eqb r.state q) _ e in
        let y = both (eqb r.pattern 1) _ x.1 in
        picked_none rs k q 2 0 b (omega (arith, eqb-true r.state q x.0, eqb-true r.pattern 1 y.0, eqb-true r.name n y.1))

    go : (t u : Bool) (P Q : Option (List ℕ)) → (t ≡ true → Q ≡ none) → or_else (or_else P (cond t (some r.side) none)) (or_else Q (cond u (some r.side) none)) ≡ or_else (or_else P Q) (cond (t || u) (some r.side) none)
    go t u (some x) Q f = refl
    go true u none Q f = rw (f refl) refl
    go false u none Q f = refl

-- ---- the slots of a rule

-- rows of 130
range_row : (s q from to slot : ℕ) → slot < 130 → to ≤ 130 → (leb (194 + s * 130 + from) (194 + q * 130 + slot) && ltb (194 + q * 130 + slot) (194 + s * 130 + to)) ≡ (eqb s q && (leb from slot && ltb slot to))
range_row s q from to slot h k = grind (arith, nat_tests)

abbrev inside : ℕ → ℕ → Rule → Bool
inside q slot r = leb (194 + r.state * 130 + (slots r).0) (194 + q * 130 + slot) && ltb (194 + q * 130 + slot) (194 + r.state * 130 + (slots r).1)

abbrev chosen_slots : (a b c : Bool) → ℕ → ℕ × ℕ
chosen_slots a b c n = cond a (n, n + 1) (cond b (0, 128) (cond c (128, 129) (129, 130)))

pub slots_order : (r : Rule) → r.name < 128 → ((slots r).0 ≤ (slots r).1) × ((slots r).1 ≤ 130)
slots_order r h = go (eqb r.pattern 1) (eqb r.pattern 2) (eqb r.pattern 3)
  where
    go : (a b c : Bool) → ((chosen_slots a b c r.name).0 ≤ (chosen_slots a b c r.name).1) × ((chosen_slots a b c r.name).1 ≤ 130)
    go true b c = (omega arith, omega arith)
    go false true c = (omega arith, omega arith)
    go false false true = (omega arith, omega arith)
    go false false false = (omega arith, omega arith)

inside-hit : (r : Rule) (q : ℕ) (m : Match) → KnownRule r → small m → inside q (slot_of m) r ≡ hit r q m
inside-hit r q m S s = by r.pattern refl m s
  where
    by : (p : ℕ) → r.pattern ≡ p → (m : Match) → small m → inside q (slot_of m) r ≡ hit r q m
    by zero e on_empty s = let w : r.name ≡ 0 = S.unnamed (λ z. omega arith) in rw e (range_row r.state q 129 130 129 (omega arith) (omega arith) ∙ rw w refl)
    by zero e (on_element n) s = rw e (range_row r.state q 129 130 n (omega arith) (omega arith) ∙ grind (arith, nat_tests))
    by zero e on_character s = rw e (range_row r.state q 129 130 128 (omega arith) (omega arith) ∙ refl)
    by (suc zero) e on_empty s = rw e (range_row r.state q r.name (r.name + 1) 129 (omega arith) (omega (arith, S.name)) ∙ grind (arith, nat_tests))
    by (suc zero) e (on_element n) s = rw e (range_row r.state q r.name (r.name + 1) n (omega arith) (omega (arith, S.name)) ∙ grind (arith, nat_tests))
    by (suc zero) e on_character s = rw e (range_row r.state q r.name (r.name + 1) 128 (omega arith) (omega (arith, S.name)) ∙ grind (arith, nat_tests))
    by (suc (suc zero)) e on_empty s = rw e (range_row r.state q 0 128 129 (omega arith) (omega arith) ∙ refl)
    by (suc (suc zero)) e (on_element n) s = let w : r.name ≡ 0 = S.unnamed (λ z. omega arith) in rw e (range_row r.state q 0 128 n (omega arith) (omega arith) ∙ grind (arith, nat_tests))
    by (suc (suc zero)) e on_character s = rw e (range_row r.state q 0 128 128 (omega arith) (omega arith) ∙ refl)
    by (suc (suc (suc zero))) e on_empty s = rw e (range_row r.state q 128 129 129 (omega arith) (omega arith) ∙ refl)
    by (suc (suc (suc zero))) e (on_element n) s = rw e (range_row r.state q 128 129 n (omega arith) (omega arith) ∙ grind (arith, nat_tests))
    by (suc (suc (suc zero))) e on_character s = let w : r.name ≡ 0 = S.unnamed (λ z. omega arith) in rw e (range_row r.state q 128 129 128 (omega arith) (omega arith) ∙ rw w refl)
    by (suc (suc (suc (suc p)))) e m s = absurd (omega (arith, S.pattern))

-- ---- what the index has after some fields

-- a slot: the place of a rule, or 0 where there is none
abbrev pub Slot : List ℕ → ℕ → Option (List ℕ) → Type 0
Slot l w none = w ≡ 0
Slot l w (some side) = (0 < w) × RuleAt l w side

slot_more : (l : List ℕ) (w v at : ℕ) (o : Option (List ℕ)) (b : Bool) (side : List ℕ)
    → Slot l w o → 0 < at → RuleAt l at side → v ≡ cond (b && eqb w 0) at w → Slot l v (or_else o (cond b (some side) none))
slot_more l w v at (some x) b side S h R e = subst (λ (i : ℕ). Slot l i (some x)) (sym (e ∙ go b (eqb w 0) (ne_eqb w 0 (λ z. omega (arith, S.0))))) S
  where
    go : (b t : Bool) → t ≡ false → cond (b && t) at w ≡ w
    go true t f = rw f refl
    go false t f = refl
slot_more l w v at none true side S h R e = let f : v ≡ at = e ∙ rw (eq-eqb w 0 S) refl in subst (λ (i : ℕ). Slot l i (some side)) (sym f) (h, R)
slot_more l w v at none false side S h R e = e ∙ S

slot-rule : (l : List ℕ) (w : ℕ) (o : Option (List ℕ)) → Slot l w o → RuleAt l w (or_empty o)
slot-rule l w (some x) S = S.1
slot-rule l w none S = subst (λ (i : ℕ). RuleAt l i []) (sym S) (record { order = omega arith; within = omega arith; bytes = refl })

pub record Holds (l ix : List ℕ) (C : Contents) : Type 0 where
  pub words : length ix ≡ 8514
  pub names : get_or ix 0 0 ≡ length C.names
  pub states : get_or ix 1 0 ≡ length C.ranks
  pub rank : (q : ℕ) → q < 64 → get_or ix (2 + q) 0 ≡ get_or C.ranks q 0
  pub place : (n : ℕ) → n < length C.names → NameAt l (get_or ix (66 + n) 0) (get_or C.names n [])
  pub rule : (q : ℕ) (m : Match) → small m → Slot l (get_or ix (194 + q * 130 + slot_of m) 0) (rule_for C.rules q m)

slot_small : (m : Match) → small m → slot_of m < 130
slot_small on_empty s = omega arith
slot_small (on_element n) s = omega arith
slot_small on_character s = omega arith

module _ (l ix jx : List ℕ) (C : Contents) (at : ℕ) (H : Holds l ix C) (w : length jx ≡ length ix) where
  name_new : (k : ℕ) → k ≡ 66 + names_in ix → noted_name ix at k ≡ at
  unfolding noted_name
  name_new k z = let f : eqb k (66 + names_in ix) ≡ true = eq-eqb k _ z in rw f refl

  name_count : noted_name ix at 0 ≡ names_in ix + 1
  unfolding noted_name
  name_count = let f : eqb 0 (66 + names_in ix) ≡ false = ne_eqb 0 _ (λ z. omega arith) in rw f refl

  name_other : (k : ℕ) → (k ≡ 66 + names_in ix → ⊥) → 0 < k → noted_name ix at k ≡ get_or ix k 0
  unfolding noted_name
  name_other k z y = let f : eqb k (66 + names_in ix) ≡ false = ne_eqb k _ z in let g : eqb k 0 ≡ false = ne_eqb k 0 (λ x. omega arith) in rw (f, g) refl

  -- a name more
  holds_name : (name : List ℕ) → length C.names < 128 → NameAt l at name → ((k : ℕ) → get_or jx k 0 ≡ noted_name ix at k)
      → Holds l jx (record { names = C.names ++ (name ∷ []); ranks = C.ranks; rules = C.rules; next = C.next })
  holds_name name h N e =
      record {
        words = w ∙ H.words;
        names = e 0 ∙ name_count ∙ ap (λ (i : ℕ). i + 1) H.names ∙ sym (length-append C.names (name ∷ []));
        states = other 1 (λ z. omega arith) (omega arith) ∙ H.states;
        rank = λ q z. other (2 + q) (λ y. omega (arith, H.names)) (omega arith) ∙ H.rank q z;
        place = λ n z. name-place n (omega (arith, z, length-append C.names (name ∷ [])));
        rule = λ q m s. subst (λ (i : ℕ). Slot l i (rule_for C.rules q m)) (sym (other (194 + q * 130 + slot_of m) (λ y. omega (arith, H.names, h)) (omega arith))) (H.rule q m s);
      }
    where
      other : (k : ℕ) → (k ≡ 66 + names_in ix → ⊥) → 0 < k → get_or jx k 0 ≡ get_or ix k 0
      other k z y = e k ∙ name_other k z y

      name-place : (n : ℕ) → n < length C.names + 1 → NameAt l (get_or jx (66 + n) 0) (get_or (C.names ++ (name ∷ [])) n [])
      name-place n z =
          elim (cases_eq n (length C.names)) [
            | inl y ↦ rw (y, e (66 + length C.names) ∙ name_new (66 + length C.names) (omega (arith, H.names)), get_or_at C.names name [] [] (length C.names) refl) N
            | inr y ↦ rw (other (66 + n) (λ x. y (omega (arith, H.names))) (omega arith), get_or_append_left C.names (name ∷ []) [] n (omega (arith, y))) (H.place n (omega (arith, y)))
          ]

  module _ (c : List ℕ) where
    state_new : (k : ℕ) → k ≡ 2 + states_in ix → noted_state ix c k ≡ get_or c 0 0
    unfolding noted_state
    state_new k z = let f : eqb k (2 + states_in ix) ≡ true = eq-eqb k _ z in rw f refl

    state_count : noted_state ix c 1 ≡ states_in ix + 1
    unfolding noted_state
    state_count = let f : eqb 1 (2 + states_in ix) ≡ false = ne_eqb 1 _ (λ z. omega arith) in rw f refl

    state_other : (k : ℕ) → (k ≡ 2 + states_in ix → ⊥) → (k ≡ 1 → ⊥) → noted_state ix c k ≡ get_or ix k 0
    unfolding noted_state
    state_other k z y = let f : eqb k (2 + states_in ix) ≡ false = ne_eqb k _ z in let g : eqb k 1 ≡ false = ne_eqb k 1 y in rw (f, g) refl

    -- a state more
    holds_state : length C.names ≤ 128 → length C.ranks < 64 → ((k : ℕ) → get_or jx k 0 ≡ noted_state ix c k)
        → Holds l jx (record { names = C.names; ranks = C.ranks ++ (get_or c 0 0 ∷ []); rules = C.rules; next = C.next })
    holds_state f h e =
        record {
          words = w ∙ H.words;
          names = other 0 (λ z. omega arith) (λ z. omega arith) ∙ H.names;
          states = e 1 ∙ state_count ∙ ap (λ (i : ℕ). i + 1) H.states ∙ sym (length-append C.ranks (get_or c 0 0 ∷ []));
          rank = λ q z. state-rank q z;
          place = λ n z. subst (λ (i : ℕ). NameAt l i (get_or C.names n [])) (sym (other (66 + n) (λ y. omega (arith, H.states)) (λ y. omega arith))) (H.place n z);
          rule = λ q m s. subst (λ (i : ℕ). Slot l i (rule_for C.rules q m)) (sym (other (194 + q * 130 + slot_of m) (λ y. omega (arith, H.states, h)) (λ y. omega arith))) (H.rule q m s);
        }
      where
        other : (k : ℕ) → (k ≡ 2 + states_in ix → ⊥) → (k ≡ 1 → ⊥) → get_or jx k 0 ≡ get_or ix k 0
        other k z y = e k ∙ state_other k z y

        past : (q : ℕ) → (q ≡ length C.ranks → ⊥) → get_or C.ranks q 0 ≡ get_or (C.ranks ++ (get_or c 0 0 ∷ [])) q 0
        past q y =
            elim (cases_lt q (length C.ranks)) [
              | inl x ↦ sym (get_or_append_left C.ranks (get_or c 0 0 ∷ []) 0 q x)
              | inr x ↦ get_or_past C.ranks q 0 x ∙ sym (get_or_past (C.ranks ++ (get_or c 0 0 ∷ [])) q 0 (omega (arith, y, length-append C.ranks (get_or c 0 0 ∷ []))))
            ]

        state-rank : (q : ℕ) → q < 64 → get_or jx (2 + q) 0 ≡ get_or (C.ranks ++ (get_or c 0 0 ∷ [])) q 0
        state-rank q z =
            elim (cases_eq q (length C.ranks)) [
              | inl y ↦ e (2 + q) ∙ state_new (2 + q) (omega (arith, H.states)) ∙ sym (get_or_at C.ranks (get_or c 0 0) [] 0 q (sym y))
              | inr y ↦ other (2 + q) (λ x. y (omega (arith, H.states))) (λ x. omega arith) ∙ H.rank q z ∙ past q y
            ]

  -- a rule more
  holds_rule : (r : Rule) (k : ℕ) → KnownRule r → length C.names ≤ 128 → Below C.rules C.next → C.next ≤ key r → 0 < at → RuleAt l at r.side
      → ((k : ℕ) → get_or jx k 0 ≡ noted_rule r at k (get_or ix k 0))
      → Holds l jx (record { names = C.names; ranks = C.ranks; rules = C.rules ++ (r ∷ []); next = k })
  unfolding noted_rule
  holds_rule r k S few B h z R e =
      record {
        words = w ∙ H.words;
        names = low 0 (omega arith) ∙ H.names;
        states = low 1 (omega arith) ∙ H.states;
        rank = λ q z. low (2 + q) (omega arith) ∙ H.rank q z;
        place = λ n z. subst (λ (i : ℕ). NameAt l i (get_or C.names n [])) (sym (low (66 + n) (omega arith))) (H.place n z);
        rule = λ q m s. rw (rule_more C.rules r C.next q m B h s) (slot_more l _ _ at (rule_for C.rules q m) (hit r q m) r.side (H.rule q m s) z R (e (194 + q * 130 + slot_of m) ∙ slot q m s));
      }
    where
      low : (k : ℕ) → k < 194 → get_or jx k 0 ≡ get_or ix k 0
      low k z = e k ∙ (let f : leb (194 + r.state * 130 + (slots r).0) k ≡ false = lt-leb _ k (omega arith) in rw f refl)

      slot : (q : ℕ) (m : Match) → small m → noted_rule r at (194 + q * 130 + slot_of m) (get_or ix (194 + q * 130 + slot_of m) 0) ≡ cond (hit r q m && eqb (get_or ix (194 + q * 130 + slot_of m) 0) 0) at (get_or ix (194 + q * 130 + slot_of m) 0)
      slot q m s = both-in (leb (194 + r.state * 130 + (slots r).0) (194 + q * 130 + slot_of m)) _ _ (hit r q m) (inside-hit r q m S s)
        where
          both-in : (a b c d : Bool) → (a && b) ≡ d → cond (a && (b && c)) at (get_or ix (194 + q * 130 + slot_of m) 0) ≡ cond (d && c) at (get_or ix (194 + q * 130 + slot_of m) 0)
          both-in true b c d f = rw f refl
          both-in false b c d f = rw (← f) refl

-- ---- the walk over the fields of an accepted table

rule_from : (l : List ℕ) (p n j long : ℕ) (side : List ℕ) → 0 < p → get_or l (p + 4) 0 ≡ n → cond (eqb n 1) 3 2 ≡ j → get_or l (p + 1) 0 * 256 + get_or l (p + 2) 0 ≡ long
    → j ≤ long → p + 3 + long ≤ length l → slice (p + 3 + j) (p + 3 + long) l ≡ side → RuleAt l p side
rule_from l zero n j long side z g i s o w e = absurd (omega arith)
rule_from l (suc p) n j long side z g i s o w e = record { order = rw (from, to) (omega arith); within = rw to w; bytes = rw (from, to) e }
  where
    two : (t : Bool) → suc p + cond t 6 5 ≡ suc p + 3 + cond t 3 2
    two true = omega arith
    two false = omega arith

    from : side_from l (suc p) ≡ suc p + 3 + j
    from = ap (λ (x : ℕ). suc p + cond (eqb x 1) 6 5) g ∙ two (eqb n 1) ∙ ap (λ (x : ℕ). suc p + 3 + x) i

    to : side_to l (suc p) ≡ suc p + 3 + long
    to = ap (λ (x : ℕ). suc p + 3 + x) s

held-side : (c : List ℕ) → rule_holds c ≡ true → (2 ≤ length c) × (cond (eqb (get_or c 1 0) 1) 3 2 ≤ length c)
held-side c h =
    let x = both (ltb 1 (length c)) _ h in
    let y : 1 < length c = ltb-true 1 (length c) x.0 in
    (y, go (eqb (get_or c 1 0) 1) x.1 y)
  where
    go : (t : Bool) → (not t || ltb 2 (length c)) ≡ true → 1 < length c → cond t 3 2 ≤ length c
    go true e y = ltb-true 2 (length c) e
    go false e y = y

-- the bytes rest are left of the table l, and the index ix has what stands before them
pub record Noting (l rest ix : List ℕ) : Type 0 where
  pub contents : Contents
  pub high : length rest ≤ length l
  pub suffix : rest ≡ drop (length l - length rest) l
  pub few : length contents.names ≤ 128
  pub some : length contents.ranks ≤ 64
  pub past : 0 < length contents.ranks → length rest < length l
  pub below : Below contents.rules contents.next
  pub decides : check_fields contents (fields_from rest (length l - length rest) 0) ≡ check_fields nothing (fields l)
  pub holds : Holds l ix contents

-- all words are 0
pub noting_start : (l ix : List ℕ) → length ix ≡ 8514 → ((k : ℕ) → get_or ix k 0 ≡ 0) → Noting l l ix
unfolding fields picked
noting_start l ix w e =
    record {
      contents = nothing;
      high = omega arith;
      suffix = ap (λ (i : ℕ). drop i l) (let e : 0 ≡ length l - length l = omega arith in e);
      few = omega arith;
      some = omega arith;
      past = λ z. absurd (omega arith);
      below = tt;
      decides = ap (λ (i : ℕ). check_fields nothing (fields_from l i 0)) (let e : length l - length l ≡ 0 = omega arith in e);
      holds = record {
        words = w;
        names = e 0;
        states = e 1;
        rank = λ q z. e (2 + q);
        place = λ n z. absurd (omega arith);
        rule = λ q m s. none-yet q m;
      };
    }
  where
    none-yet : (q : ℕ) (m : Match) → Slot l (get_or ix (194 + q * 130 + slot_of m) 0) (rule_for [] q m)
    none-yet q on_empty = e (194 + q * 130 + 129)
    none-yet q (on_element n) = e (194 + q * 130 + n)
    none-yet q on_character = e (194 + q * 130 + 128)

known_small : (C : Contents) (m : Match) → length C.names ≤ 128 → known C m → small m
known_small C on_empty f k = tt
known_small C (on_element n) f k = omega arith
known_small C on_character f k = tt

ranks-in : {l ix : List ℕ} (C : Contents) → Holds l ix C → length C.ranks ≤ 64 → (q : ℕ) → rank_in ix q ≡ get_or C.ranks q 0
ranks-in C H s q =
    elim (cases_lt q 64) [
      | inl x ↦ rw (lt-ltb q 64 x) (H.rank q x)
      | inr x ↦ rw (le-ltb q 64 x) (sym (get_or_past C.ranks q 0 (omega arith)))
    ]

accepted-short : (l : List ℕ) → (read l).number ≡ 0 → length l ≤ 32768
accepted-short l a =
    elim (cases_lt 32768 (length l)) [
      | inl h ↦ absurd (let e : ◌≡◌ {A = ℕ} 2 (read l).number = ap (λ (p : ℕ × ℕ). p.0) (reading_long l h) in omega arith)
      | inr h ↦ h
    ]

module _ (l rest ix : List ℕ) (N : Noting l rest ix) (a : (read l).number ≡ 0) where
  abbrev place : ℕ
  place = length l - length rest

  abbrev C : Contents
  C = N.contents

  -- what the check of the rest comes to is the table's
  comes-to : (r : Read) → check_fields C (fields_from rest place 0) ≡ r → read l ≡ r
  comes-to r e = read-fields l (accepted-short l a) ∙ sym N.decides ∙ e

  -- so a field is there
  cut-number : front_field rest ≡ None → (p : ℕ) → p ≡ length rest → (read l).number ≡ 1
  unfolding check_fields fields_from
  cut-number e zero z =
      let f : read l ≡ record { number = 1; place = place; contents = C } = comes-to _ (ap (λ (d : List ℕ). check_fields C (fields_from d place 0)) (nil_from_length rest (sym z))) in
      ap (λ (r : Read). r.number) f
  cut-number e (suc p) z =
      let f : read l ≡ record { number = 1; place = place; contents = C } = comes-to _ (ap (check_fields C) (front_none rest place (omega arith) e)) in
      ap (λ (r : Read). r.number) f

  pub noting_none : front_field rest ≡ None → Indexed l ix
  noting_none e = absurd (omega (arith, cut-number e (length rest) refl))

  module _ (t : ℕ) (c d : List ℕ) (e : front_field rest ≡ Some (t, c, d)) where
    abbrev front : Front rest t c d
    front = front_is rest t c d e

    abbrev behind : Fields
    behind = fields_from d (place + 3 + length c) 0

    step : check_fields C (fields_from rest place 0) ≡ check_fields C (field place t c behind)
    step = ap (check_fields C) (front.fields place)

    -- and none is refused
    fine : refusal C.names C.ranks C.next t c ≡ 0
    fine = go (refusal C.names C.ranks C.next t c) refl
      where
        go : (r : ℕ) → refusal C.names C.ranks C.next t c ≡ r → r ≡ 0
        go zero f = refl
        go (suc r) f =
            let g : read l ≡ record { number = suc r; place = place; contents = C } = comes-to _ (step ∙ check-refused C place t c behind r f) in
            absurd (omega (arith, ap (λ (r : Read). r.number) g))

    at-end : t ≡ 4 → (read l).contents ≡ C
    at-end z =
        let g : read l ≡ behind_end C behind = comes-to _ (step ∙ check-end C place t c behind z fine) in
        ap (λ (r : Read). r.contents) g ∙ go behind
      where
        go : (f : Fields) → (behind_end C f).contents ≡ C
        go (stop p) = refl
        go (cut p) = refl
        go (field p t c f) = refl

    further : length l - length d ≡ place + 3 + length c
    further = omega (arith, front.long, N.high)

    left-of : d ≡ drop (length l - length d) l
    left-of =
        front.behind ∙ ap (drop (3 + length c)) N.suffix ∙ drop-drop (3 + length c) place l
        ∙ ap (λ (i : ℕ). drop i l) (let e : place + (3 + length c) ≡ length l - length d = omega (arith, further) in e)

    -- a byte of the field, by its place in the table
    byte : (i : ℕ) → get_or rest i 0 ≡ get_or l (place + i) 0
    byte i = ap (λ (k : List ℕ). get_or k i 0) N.suffix ∙ get_or-drop place l i 0

    content-at : c ≡ take (length c) (drop (place + 3) l)
    content-at = front.content ∙ ap (take (length c)) (ap (drop 3) N.suffix ∙ drop-drop 3 place l)

    size-at : get_or l (place + 1) 0 * 256 + get_or l (place + 2) 0 ≡ length c
    size-at = omega (arith, front.size, byte 1, byte 2)

    name-at : length c ≤ 32 → NameAt l place c
    unfolding name_at
    name-at h =
        let long : get_or l (place + 2) 0 ≡ length c = omega (arith, size-at) in
        record {
          within = omega (arith, long, front.long, N.high);
          long = omega (arith, long);
          bytes = rw long (drop-take (place + 3) (length c) l ∙ sym content-at);
        }

    rule-at : 0 < place → rule_holds c ≡ true → RuleAt l place (rule_of c).side
    rule-at z h =
        let o = held-side c h in
        rule_from l place (get_or c 1 0) (cond (eqb (get_or c 1 0) 1) 3 2) (length c) (rule_of c).side z (sym kind) refl size-at o.1 (omega (arith, front.long, N.high)) (bytes (cond (eqb (get_or c 1 0) 1) 3 2))
      where
        kind : get_or c 1 0 ≡ get_or l (place + 4) 0
        kind =
            ap (λ (x : List ℕ). get_or x 1 0) content-at ∙ get_or-take (length c) (drop (place + 3) l) 1 0 (held-side c h).0 ∙ get_or-drop (place + 3) l 1 0
            ∙ ap (λ (i : ℕ). get_or l i 0) (let e : place + 3 + 1 ≡ place + 4 = omega arith in e)

        bytes : (j : ℕ) → slice (place + 3 + j) (place + 3 + length c) l ≡ drop j c
        bytes j = sym (drop-drop j (place + 3) (take (place + 3 + length c) l)) ∙ ap (drop j) (drop-take (place + 3) (length c) l ∙ sym content-at)

    abbrev names : ℕ
    names = length C.names

    -- what an accepted rule says
    record Said : Type 0 where
      rule : KnownRule (rule_of c)
      next : C.next ≤ key (rule_of c)

    said : t ≡ 3 → Said
    unfolding rule_refusal
    said o =
        let f : rule_refusal names C.ranks C.next c ≡ 0 = sym (as-rule C.names C.ranks C.next t c o) ∙ fine in
        let g = (chosen (not (none_yet C.ranks) && rule_holds c) _ 0 f).1 in
        let k = (chosen (rule_known names (length C.ranks) C.next (rule_of c)) _ 2 g).0 in
        let k0 = both (ltb (rule_of c).state (length C.ranks)) _ k in
        let k1 = both (leb (rule_of c).pattern 3) _ k0.1 in
        let k2 = both (not (eqb (rule_of c).pattern 1) || ltb (rule_of c).name names) _ k1.1 in
        record {
          rule = record {
            state = omega (arith, ltb-true _ _ k0.0, N.some);
            pattern = leb-true _ _ k1.0;
            name = low (eqb (get_or c 1 0) 1) k2.0;
            unnamed = λ z. rw (ne_eqb (get_or c 1 0) 1 z) refl;
          };
          next = leb-true _ _ k2.1;
        }
      where
        low : (q : Bool) → (not q || ltb (cond q (get_or c 2 0) 0) names) ≡ true → cond q (get_or c 2 0) 0 < 128
        low true f = omega (arith, ltb-true _ _ f, N.few)
        low false f = omega arith

    -- a further field that is not the end
    module _ (jx : List ℕ) (w : length jx ≡ length ix) (f : (k : ℕ) → get_or jx k 0 ≡ noted ix t c place k) (z : t ≡ 4 → ⊥) where
      more : (D : Contents) → D ≡ added C t c → length D.names ≤ 128 → length D.ranks ≤ 64 → Below D.rules D.next → Holds l jx D → Noting l d jx
      more D i x y b h =
          record {
            contents = D;
            high = omega (arith, front.long, N.high);
            suffix = left-of;
            few = x;
            some = y;
            past = λ v. omega (arith, front.long, N.high);
            below = b;
            decides = ap (λ (D : Contents). check_fields D (fields_from d (length l - length d) 0)) i
                ∙ ap (λ (p : ℕ). check_fields (added C t c) (fields_from d p 0)) further
                ∙ sym (step ∙ check-on C place t c behind z fine) ∙ N.decides;
            holds = h;
          }

      more-name : t ≡ 1 → Noting l d jx
      unfolding added noted
      more-name o =
          let A : Name C.names C.ranks C.next c = name_accepted C.names C.ranks C.next c (sym (as-name C.names C.ranks C.next t c o) ∙ fine) in
          let i : eqb t 1 ≡ true = eq-eqb t 1 o in
          more (record { names = C.names ++ (c ∷ []); ranks = C.ranks; rules = C.rules; next = C.next }) (rw i refl) (omega (arith, A.room, length-append C.names (c ∷ []))) N.some N.below
          (holds_name l ix jx C place N.holds w c A.room (name-at A.short) (λ k. f k ∙ rw i refl))

      more-state : t ≡ 2 → Noting l d jx
      unfolding added noted
      more-state o =
          let A : State C.names C.ranks C.next c = state_accepted C.names C.ranks C.next c (sym (as-state C.names C.ranks C.next t c o) ∙ fine) in
          let i : eqb t 1 ≡ false = ne_eqb t 1 (λ x. omega arith) in
          let j : eqb t 2 ≡ true = eq-eqb t 2 o in
          more (record { names = C.names; ranks = C.ranks ++ (get_or c 0 0 ∷ []); rules = C.rules; next = C.next }) (rw (i, j) refl) N.few (omega (arith, A.room, length-append C.ranks (get_or c 0 0 ∷ []))) N.below
          (holds_state l ix jx C place N.holds w c N.few A.room (λ k. f k ∙ rw (i, j) refl))

      more-rule : t ≡ 3 → Noting l d jx
      unfolding added noted
      more-rule o =
          let A : A-rule C.names C.ranks C.next c = rule_accepted C.names C.ranks C.next c names (sym (as-rule C.names C.ranks C.next t c o) ∙ fine) in
          let S : Said = said o in
          let i : eqb t 1 ≡ false = ne_eqb t 1 (λ x. omega arith) in
          let j : eqb t 2 ≡ false = ne_eqb t 2 (λ x. omega arith) in
          let k : eqb t 3 ≡ true = eq-eqb t 3 o in
          let v : 0 < place = omega (arith, N.past A.some) in
          more (record { names = C.names; ranks = C.ranks; rules = C.rules ++ (rule_of c ∷ []); next = suc (key (rule_of c)) }) (rw (i, j, k) refl) N.few N.some (below_more C.rules (rule_of c) C.next N.below S.next)
          (holds_rule l ix jx C place N.holds w (rule_of c) (suc (key (rule_of c))) S.rule N.few N.below S.next v (rule-at v A.holds) (λ m. f m ∙ rw (i, j, k, A.holds) refl))

      pub noting_more : Noting l d jx
      noting_more = by-tag (eqb t 1) (eqb t 2) (eqb t 3) refl refl refl
        where
          by-tag : (p q r : Bool) → eqb t 1 ≡ p → eqb t 2 ≡ q → eqb t 3 ≡ r → Noting l d jx
          by-tag true q r e1 e2 e3 = more-name (eqb-true t 1 e1)
          by-tag false true r e1 e2 e3 = more-state (eqb-true t 2 e2)
          by-tag false false true e1 e2 e3 = more-rule (eqb-true t 3 e3)
          by-tag false false false e1 e2 e3 = absurd (let x = as-none C.names C.ranks C.next t c (eqb-false t 1 e1) (eqb-false t 2 e2) (eqb-false t 3 e3) z in omega (arith, x, fine))

    -- there is room for it
    pub noting_names : t ≡ 1 → names_in ix < 128
    noting_names o = omega (arith, (name_accepted C.names C.ranks C.next c (sym (as-name C.names C.ranks C.next t c o) ∙ fine)).room, N.holds.names)

    pub noting_states : t ≡ 2 → states_in ix < 64
    noting_states o = omega (arith, (state_accepted C.names C.ranks C.next c (sym (as-state C.names C.ranks C.next t c o) ∙ fine)).room, N.holds.states)

    pub noting_rule : t ≡ 3 → KnownRule (rule_of c)
    noting_rule o = (said o).rule

    pub noting_place : place < 65536
    noting_place = omega (arith, accepted-short l a)

    pub noting_shorter : length d < length rest
    noting_shorter = omega (arith, front.long)

    -- the end: the index is the table's
    pub noting_end : t ≡ 4 → Indexed l ix
    noting_end o =
        let i : (read l).contents ≡ C = at-end o in
        let H : Holds l ix (read l).contents = subst (Holds l ix) (sym i) N.holds in
        let f : length (read l).contents.names ≤ 128 = subst (λ (D : Contents). length D.names ≤ 128) (sym i) N.few in
        let s : length (read l).contents.ranks ≤ 64 = subst (λ (D : Contents). length D.ranks ≤ 64) (sym i) N.some in
        record {
          accepted = a;
          words = H.words;
          names = H.names;
          states = H.states;
          rank = ranks-in (read l).contents H s;
          place = H.place;
          rule = λ q m z k. slot-rule l _ _ (H.rule q m (known_small (read l).contents m f k));
        }

pub ruleset index_laws = (noting_start, noting_none, noting_names, noting_states, noting_rule, noting_place, noting_more, noting_end, noting_shorter)
