-- What a table's right sides are: of its vocabulary, no larger than 64, with no more than 8 ends owed. Assumes nothing.
--
-- Document 01, "The rule table", refusals 3 and 2. Of bytes whose `side_number` is 0, under a pattern that stands for m:
--   side-spelled   they spell items; side-valid, a right side of the vocabulary, for each such m
--   side-words   its size is the words of its items; side-size, at most 64
--   side-owes    it owes at most 8 ends at any point
-- Of what is read of any bytes, accepted or not, as the fields before a refused one were not refused:
--   sound-read   at most 128 names and 64 states, at most 4 carried values each; each rule has a known state, pattern and name,
--                and a right side that is not refused; states-read, some state where the table is accepted
--   proper-rules_of   the table that is spelled is `Proper`; size-rules_of, owes-rules_of, sides-read, the same of its right sides
--   size-largest, largest-most   none is larger than R, and R is at most 64; rank-most, nor has a state more than 4 values
use Rattle.meaning.specs.Linear.{Small}
use Rattle.meaning.proofs.Demand3.{uses-known}
use Rattle.std.proofs.Common.{ℕ, zero, suc, pred, All, ◌≡◌, ◌+◌, ◌++◌, ◌≤◌, ◌<◌, ◌⊎◌, inl, inr, refl, sym, ap, subst, ◌∙◌, Bool, true, false, cond, not, ◌&&◌, ◌||◌, List, [], ◌∷◌, length, get_or, max, zero-add, suc-add, arith}
use Rattle.std.proofs.Math.Option.{Option, none, some}
use Rattle.std.proofs.lemmas.List.{length-append, get_or_past}
use Rattle.std.proofs.lemmas.List.Elements.{All-head, All-tail, All-push, All-nil}
use Rattle.std.proofs.Math.Decide.{dec_lt}
use Rattle.std.proofs.lemmas.Bool.{leb-true, eqb-true, eqb-false, eq-eqb, ne_eqb, ltb-true, ltb-false}
use lib.Dec.{leb, ltb, eqb, T}
use Rattle.alphabet.specs.Classes.{is_leaf}
use Rattle.meaning.specs.Rules.{Source, children, siblings, Match, on_empty, on_element, on_character, Rhs}
use Rattle.meaning.specs.Count.{rhs_size, rhs_sizes}
use Rattle.meaning.specs.Valid as valid
use Rattle.meaning.specs.Valid.{Vocabulary, RCount, RhsValid, RArgsValid, Proper}
use Rattle.table.specs.Side.{Item, item10, item11, item12, item13, item14, item15, item1F, items, first, has_element, has_source, all_allowed, closed, few, words_of, judged, side_number}
use Rattle.table.specs.Rules.{args_of, rhs_of, known, side_of, is_rule, picked, or_else, or_empty, side_for, table_of, rules_of, vocabulary, largest_of, largest, count, Owes, OwesAll}
use Rattle.table.specs.Format.{is_name, number_of, Fields, stop, cut, field, fields, Rule, Contents, nothing, rule_of, key, none_yet, name_refusal, state_refusal, rule_holds, rule_known, rule_refusal, end_refusal, refusal, added, Read, behind_end, check_fields, read}
use Rattle.table.proofs.Reading.{both, chosen, yet-none, yet-some, as-name, as-state, as-rule, as-none, check-refused, check-end, check-on}

-- ---- what is allowed is valid

-- which matches a pattern stands for
abbrev pub Stands : ℕ → Match → Type 0
Stands p on_empty = p ≡ 0
Stands p (on_element k) = (p ≡ 1) ⊎ (p ≡ 2)
Stands p on_character = p ≡ 3

-- what so many names and states of those carried values let a right side mention
abbrev pub mentions : ℕ → List ℕ → Vocabulary
mentions names ranks = record { names = names; states = length ranks; rank = λ q. get_or ranks q 0; is_leaf = is_leaf }

true-T : (b : Bool) → b ≡ true → T b
true-T true h = tt
true-T false h = let z : ◌≡◌ {A = ℕ} 0 1 = cc in absurd (omega arith)

never : {A : Type 0} → false ≡ true → A
never h = let z : ◌≡◌ {A = ℕ} 0 1 = cc in absurd (omega arith)

element-valid : (p : ℕ) (m : Match) → Stands p m → has_element p ≡ true → valid.has_element m
element-valid p on_empty s h = never (rw s at h)
element-valid p (on_element k) s h = tt
element-valid p on_character s h = never (rw s at h)

character-valid : (p : ℕ) (m : Match) → Stands p m → eqb p 3 ≡ true → valid.has_character m
character-valid p on_empty s h = never (rw s at h)
character-valid p (on_element k) (inl s) h = never (rw s at h)
character-valid p (on_element k) (inr s) h = never (rw s at h)
character-valid p on_character s h = tt

source-valid : (p : ℕ) (m : Match) (x : Source) → Stands p m → has_source p x ≡ true → valid.has_source m x
source-valid p on_empty children s h = never (rw s at h)
source-valid p on_empty siblings s h = never (rw s at h)
source-valid p (on_element k) x s h = tt
source-valid p on_character children s h = never (rw s at h)
source-valid p on_character siblings s h = tt

count_args : (n : ℕ) (f : ℕ → Rhs) → RCount (args_of n f) n
unfolding args_of
count_args zero f = tt
count_args (suc n) f = count_args n (λ i. f (suc i))

module _ (names : ℕ) (ranks : List ℕ) (p n : ℕ) (m : Match) (s : Stands p m) where
  abbrev Good : Rhs → Type 0
  Good r = RhsValid (mentions names ranks) m n r

  valid_args : (k : ℕ) (f : ℕ → Rhs) → ((i : ℕ) → Good (f i)) → RArgsValid (mentions names ranks) m n (args_of k f)
  unfolding args_of
  valid_args zero f v = tt
  valid_args (suc k) f v = (v 0, valid_args k (λ i. f (suc i)) (λ i. v (suc i)))

  -- every right side of the stack that items spell
  valid_items : (is : List Item) → all_allowed names ranks p n is ≡ true → (i : ℕ) → Good (rhs_of ranks is i)
  unfolding all_allowed rhs_of
  valid_items [] h i = tt
  valid_items (item10 k ∷ is) h zero = let a = both (ltb k names) _ h in (ltb-true k names a.0, valid_items is a.1 0, valid_items is a.1 1)
  valid_items (item10 k ∷ is) h (suc i) = valid_items is (both (ltb k names) _ h).1 (suc (suc i))
  valid_items (item11 ∷ is) h zero = let a = both (has_element p) _ h in (element-valid p m s a.0, valid_items is a.1 0, valid_items is a.1 1)
  valid_items (item11 ∷ is) h (suc i) = valid_items is (both (has_element p) _ h).1 (suc (suc i))
  valid_items (item12 c ∷ is) h zero = let a = both (is_leaf c) _ h in (true-T (is_leaf c) a.0, valid_items is a.1 0)
  valid_items (item12 c ∷ is) h (suc i) = valid_items is (both (is_leaf c) _ h).1 (suc i)
  valid_items (item13 ∷ is) h zero = let a = both (eqb p 3) _ h in (character-valid p m s a.0, valid_items is a.1 0)
  valid_items (item13 ∷ is) h (suc i) = valid_items is (both (eqb p 3) _ h).1 (suc i)
  valid_items (item14 j ∷ is) h zero = let a = both (ltb j n) _ h in (ltb-true j n a.0, valid_items is a.1 0)
  valid_items (item14 j ∷ is) h (suc i) = valid_items is (both (ltb j n) _ h).1 (suc i)
  valid_items (item15 x q ∷ is) h zero =
      let a = both (has_source p x && ltb q (length ranks)) _ h in
      let b = both (has_source p x) _ a.0 in
      (source-valid p m x s b.0, ltb-true q (length ranks) b.1, count_args (get_or ranks q 0) (λ i. rhs_of ranks is i), valid_args (get_or ranks q 0) (λ i. rhs_of ranks is i) (valid_items is a.1), valid_items is a.1 (get_or ranks q 0))
  valid_items (item15 x q ∷ is) h (suc i) = valid_items is (both (has_source p x && ltb q (length ranks)) _ h).1 (suc (get_or ranks q 0 + i))
  valid_items (item1F ∷ is) h zero = tt
  valid_items (item1F ∷ is) h (suc i) = valid_items is h i

-- ---- the size of a right side is its items' words

-- the first k numbers of f
unfoldable pub summed : ℕ → (ℕ → ℕ) → ℕ
summed zero f = 0
summed (suc k) f = f 0 + summed k (λ i. f (suc i))

-- the r numbers before the one at r, and the k behind it
summed_split : (r k : ℕ) (f : ℕ → ℕ) → summed (suc (r + k)) f ≡ summed r f + (f r + summed k (λ i. f (suc (r + i))))
unfolding summed
summed_split zero k f = simp zero-add
summed_split (suc r) k f = let e = summed_split r k (λ i. f (suc i)) in simp suc-add (omega (arith, e))

sizes-args : (k : ℕ) (f : ℕ → Rhs) → rhs_sizes (args_of k f) ≡ k + summed k (λ i. rhs_size (f i))
unfolding args_of summed rhs_sizes
sizes-args zero f = refl
sizes-args (suc k) f = let e = sizes-args k (λ i. f (suc i)) in omega (arith, e)

module _ (ranks : List ℕ) where
  abbrev size_at : List Item → ℕ → ℕ
  size_at is i = rhs_size (rhs_of ranks is i)

  -- d ends are owed: the d + 1 right sides of the stack have the words of their items
  words-sizes : (is : List Item) (d : ℕ) → closed ranks is d ≡ true → summed (suc d) (λ i. size_at is i) ≡ words_of ranks is
  unfolding closed words_of rhs_of rhs_size summed
  words-sizes [] zero h = refl
  words-sizes [] (suc d) h = absurd (omega (arith, eqb-true (suc d) 0 h))
  words-sizes (item10 k ∷ is) d h = let e = words-sizes is (suc d) h in omega (arith, e)
  words-sizes (item11 ∷ is) d h = let e = words-sizes is (suc d) h in omega (arith, e)
  words-sizes (item12 c ∷ is) d h = let e = words-sizes is d h in omega (arith, e)
  words-sizes (item13 ∷ is) d h = let e = words-sizes is d h in omega (arith, e)
  words-sizes (item14 j ∷ is) d h = let e = words-sizes is d h in omega (arith, e)
  words-sizes (item15 x q ∷ is) d h =
      let e = words-sizes is (get_or ranks q 0 + d) h in
      let f = summed_split (get_or ranks q 0) d (λ i. size_at is i) in
      let g = sizes-args (get_or ranks q 0) (λ i. rhs_of ranks is i) in
      omega (arith, e, f, g)
  words-sizes (item1F ∷ is) zero h = never h
  words-sizes (item1F ∷ is) (suc d) h = let e = words-sizes is d (both (ltb 0 (suc d)) _ h).1 in omega (arith, e)

-- ---- the ends that a right side owes

count-args : (k : ℕ) (f : ℕ → Rhs) → count (args_of k f) ≡ k
unfolding args_of count
count-args zero f = refl
count-args (suc k) f = ap suc (count-args k (λ i. f (suc i)))

owes-args : (k e : ℕ) (f : ℕ → Rhs) → ((i j : ℕ) → i + j ≡ k + e → Owes j (f i)) → OwesAll e (args_of k f)
unfolding args_of
owes-args zero e f v = tt
owes-args (suc k) e f v =
    (v 0 (suc (count (args_of k (λ i. f (suc i))) + e)) (omega (arith, count-args k (λ i. f (suc i)))), owes-args k e (λ i. f (suc i)) (λ i j h. v (suc i) j (omega arith)))

module _ (ranks : List ℕ) where
  -- of the d + 1 right sides of the stack, the one at i has its own end and those of the ones behind it before it
  owes-items : (is : List Item) (d : ℕ) → few ranks is d ≡ true → (i e : ℕ) → i + e ≡ d → Owes e (rhs_of ranks is i)
  unfolding few rhs_of
  owes-items [] d h i e g = tt
  owes-items (item10 k ∷ is) d h zero e g =
      let a = both (leb (suc d) 8) _ h in
      let l = leb-true (suc d) 8 a.0 in
      (omega (arith, l), owes-items is (suc d) a.1 0 (suc e) (omega arith), owes-items is (suc d) a.1 1 e (omega arith))
  owes-items (item10 k ∷ is) d h (suc i) e g = owes-items is (suc d) (both (leb (suc d) 8) _ h).1 (suc (suc i)) e (omega arith)
  owes-items (item11 ∷ is) d h zero e g =
      let a = both (leb (suc d) 8) _ h in
      let l = leb-true (suc d) 8 a.0 in
      (omega (arith, l), owes-items is (suc d) a.1 0 (suc e) (omega arith), owes-items is (suc d) a.1 1 e (omega arith))
  owes-items (item11 ∷ is) d h (suc i) e g = owes-items is (suc d) (both (leb (suc d) 8) _ h).1 (suc (suc i)) e (omega arith)
  owes-items (item12 c ∷ is) d h zero e g = owes-items is d (both (leb d 8) _ h).1 0 e g
  owes-items (item12 c ∷ is) d h (suc i) e g = owes-items is d (both (leb d 8) _ h).1 (suc i) e g
  owes-items (item13 ∷ is) d h zero e g = owes-items is d (both (leb d 8) _ h).1 0 e g
  owes-items (item13 ∷ is) d h (suc i) e g = owes-items is d (both (leb d 8) _ h).1 (suc i) e g
  owes-items (item14 j ∷ is) d h zero e g = owes-items is d (both (leb d 8) _ h).1 0 e g
  owes-items (item14 j ∷ is) d h (suc i) e g = owes-items is d (both (leb d 8) _ h).1 (suc i) e g
  owes-items (item15 x q ∷ is) d h zero e g =
      let r = get_or ranks q 0 in
      let a = both (leb (r + d) 8) _ h in
      let l = leb-true (r + d) 8 a.0 in
      (omega (arith, l, count-args r (λ i. rhs_of ranks is i)), owes-args r e (λ i. rhs_of ranks is i) (λ i j y. owes-items is (r + d) a.1 i j (omega arith)), owes-items is (r + d) a.1 r e (omega arith))
  owes-items (item15 x q ∷ is) d h (suc i) e g =
      let r = get_or ranks q 0 in
      owes-items is (r + d) (both (leb (r + d) 8) _ h).1 (suc (r + i)) e (omega arith)
  owes-items (item1F ∷ is) d h zero e g = tt
  owes-items (item1F ∷ is) d h (suc i) e g = owes-items is (pred d) (both (leb (pred d) 8) _ h).1 i e (omega arith)

-- ---- a right side that is not refused

module _ (names : ℕ) (ranks : List ℕ) (p n : ℕ) where
  -- what its items say
  record Taken (is : List Item) : Type 0 where
    allowed : all_allowed names ranks p n is ≡ true
    closed : closed ranks is 0 ≡ true
    small : words_of ranks is ≤ 64
    few : few ranks is 0 ≡ true

  small-few : (w : ℕ) (b : Bool) → cond (ltb 64 (0 + w) || not b) (suc 1) 0 ≡ 0 → (w ≤ 64) × (b ≡ true)
  small-few w b h = go (ltb 64 (0 + w)) b refl h
    where
      go : (t b : Bool) → ltb 64 (0 + w) ≡ t → cond (t || not b) (suc 1) 0 ≡ 0 → (w ≤ 64) × (b ≡ true)
      go true b e h = absurd (omega arith)
      go false true e h = (omega (arith, ltb-false 64 (0 + w) e), refl)
      go false false e h = absurd (omega arith)

  taken : (o : Option (List Item)) → judged names ranks p n o 0 0 false ≡ 0 → Taken (known o)
  unfolding judged
  taken none h = absurd (omega arith)
  taken (some is) h =
      let a = chosen (all_allowed names ranks p n is && closed ranks is 0) _ 2 h in
      let b = both (all_allowed names ranks p n is) (closed ranks is 0) a.0 in
      let c = small-few (words_of ranks is) (few ranks is 0) a.1 in
      record { allowed = b.0; closed = b.1; small = c.0; few = c.1 }

  spelled : (o : Option (List Item)) → judged names ranks p n o 0 0 false ≡ 0 → o ≡ some (known o)
  unfolding judged
  spelled none h = absurd (omega arith)
  spelled (some is) h = refl

  module _ (bs : List ℕ) (h : side_number names ranks p n bs ≡ 0) where
    taken-side : Taken (known (items bs first))
    unfolding side_number
    taken-side = taken (items bs first) h

    -- its bytes spell items
    pub side-spelled : items bs first ≡ some (known (items bs first))
    unfolding side_number
    side-spelled = spelled (items bs first) h

    -- a right side that is not refused is one of the vocabulary, for each match that its pattern stands for
    pub side-valid : (m : Match) → Stands p m → RhsValid (mentions names ranks) m n (side_of ranks bs)
    unfolding side_of
    side-valid m s = valid_items names ranks p n m s (known (items bs first)) taken-side.allowed 0

    -- its size is its items' words, at most 64
    pub side-words : rhs_size (side_of ranks bs) ≡ words_of ranks (known (items bs first))
    unfolding side_of summed
    side-words = let e = words-sizes ranks (known (items bs first)) 0 taken-side.closed in omega (arith, e)

    pub side-size : rhs_size (side_of ranks bs) ≤ 64
    side-size = omega (arith, side-words, taken-side.small)

    -- and it owes at most 8 ends at any point
    pub side-owes : Owes 0 (side_of ranks bs)
    unfolding side_of
    side-owes = owes-items ranks (known (items bs first)) 0 taken-side.few 0 0 refl

-- ---- what contents say

-- a rule of the vocabulary, with a right side that is not refused
pub record Fit (names : ℕ) (ranks : List ℕ) (r : Rule) : Type 0 where
  pub state : r.state < length ranks
  pub pattern : r.pattern ≤ 3
  pub name : r.pattern ≡ 1 → r.name < names
  pub side : side_number names ranks r.pattern (get_or ranks r.state 0) r.side ≡ 0

-- contents of fields that are not refused
pub record Sound (C : Contents) : Type 0 where
  pub names : length C.names ≤ 128
  pub states : length C.ranks ≤ 64
  pub ranks : All (λ n. n ≤ 4) C.ranks
  pub rules : All (Fit (length C.names) C.ranks) C.rules
  pub early : C.next ≡ 0 → length C.rules ≡ 0

all-none : {A : Type 0} (P : A → Type 0) (l : List A) → length l ≡ 0 → All P l
all-none P l h k d g = absurd (omega arith)

-- without a state there is no rule
stateless : (names : ℕ) (ranks : List ℕ) (rs : List Rule) → All (Fit names ranks) rs → length ranks ≡ 0 → length rs ≡ 0
stateless names ranks [] h z = refl
stateless names ranks (r ∷ rs) h z = let f = All-head (Fit names ranks) r rs h in absurd (omega (arith, f.state))

known-name : (p k names : ℕ) → (not (eqb p 1) || ltb k names) ≡ true → p ≡ 1 → k < names
known-name p k names h z = let f = eq-eqb p 1 z in ltb-true k names (rw f at h)

module _ (C : Contents) (S : Sound C) (c : List ℕ) where
  sound-name : name_refusal C.names C.ranks c ≡ 0 → Sound (record { names = C.names ++ (c ∷ []); ranks = C.ranks; rules = C.rules; next = C.next })
  unfolding name_refusal
  sound-name h =
      let a = chosen (none_yet C.ranks && (is_name c && eqb (number_of C.names c) (length C.names))) _ 0 h in
      let room = ltb-true (length C.names) 128 (chosen (ltb (length C.names) 128) 0 1 a.1).0 in
      let none = stateless (length C.names) C.ranks C.rules S.rules (yet-none C.ranks (both (none_yet C.ranks) _ a.0).0) in
      record {
        names = omega (arith, room, length-append C.names (c ∷ []));
        states = S.states;
        ranks = S.ranks;
        rules = all-none (Fit (length (C.names ++ (c ∷ []))) C.ranks) C.rules none;
        early = λ z. none;
      }

  sound-state : state_refusal C.ranks C.next c ≡ 0 → Sound (record { names = C.names; ranks = C.ranks ++ (get_or c 0 0 ∷ []); rules = C.rules; next = C.next })
  unfolding state_refusal
  sound-state h =
      let a = chosen (eqb C.next 0 && (eqb (length c) 1 && leb (get_or c 0 0) 4)) _ 0 h in
      let b = both (eqb C.next 0) _ a.0 in
      let w = leb-true (get_or c 0 0) 4 (both (eqb (length c) 1) _ b.1).1 in
      let room = ltb-true (length C.ranks) 64 (chosen (ltb (length C.ranks) 64) 0 1 a.1).0 in
      let none = S.early (eqb-true C.next 0 b.0) in
      record {
        names = S.names;
        states = omega (arith, room, length-append C.ranks (get_or c 0 0 ∷ []));
        ranks = All-push (λ n. n ≤ 4) C.ranks (get_or c 0 0) S.ranks w;
        rules = all-none (Fit (length C.names) (C.ranks ++ (get_or c 0 0 ∷ []))) C.rules none;
        early = λ z. none;
      }

  sound-rule : rule_refusal (length C.names) C.ranks C.next c ≡ 0 → Sound (record { names = C.names; ranks = C.ranks; rules = C.rules ++ (rule_of c ∷ []); next = suc (key (rule_of c)) })
  unfolding rule_refusal
  sound-rule h =
      let r = rule_of c in
      let a = chosen (not (none_yet C.ranks) && rule_holds c) _ 0 h in
      let b = chosen (rule_known (length C.names) (length C.ranks) C.next r) _ 2 a.1 in
      let s = both (ltb r.state (length C.ranks)) _ b.0 in
      let t = both (leb r.pattern 3) _ s.1 in
      let u = both (not (eqb r.pattern 1) || ltb r.name (length C.names)) _ t.1 in
      record {
        names = S.names;
        states = S.states;
        ranks = S.ranks;
        rules = All-push (Fit (length C.names) C.ranks) C.rules r S.rules (record {
          state = ltb-true r.state (length C.ranks) s.0;
          pattern = leb-true r.pattern 3 t.0;
          name = λ z. known-name r.pattern r.name (length C.names) u.0 z;
          side = b.1;
        });
        early = λ z. absurd (omega arith);
      }

-- the contents with one field more that is not refused
module _ (C : Contents) (S : Sound C) (t : ℕ) (c : List ℕ) (h : refusal C.names C.ranks C.next t c ≡ 0) where
  sound-added : (t ≡ 4 → ⊥) → Sound (added C t c)
  unfolding added
  sound-added n = go (eqb t 1) (eqb t 2) (eqb t 3) refl refl refl
    where
      go : (x y z : Bool) → eqb t 1 ≡ x → eqb t 2 ≡ y → eqb t 3 ≡ z → Sound (added C t c)
      go true y z e1 e2 e3 = rw e1 (sound-name C S c (sym (as-name C.names C.ranks C.next t c (eqb-true t 1 e1)) ∙ h))
      go false true z e1 e2 e3 = rw (e1, e2) (sound-state C S c (sym (as-state C.names C.ranks C.next t c (eqb-true t 2 e2)) ∙ h))
      go false false true e1 e2 e3 = rw (e1, e2, e3) (sound-rule C S c (sym (as-rule C.names C.ranks C.next t c (eqb-true t 3 e3)) ∙ h))
      go false false false e1 e2 e3 = absurd (let w = as-none C.names C.ranks C.next t c (eqb-false t 1 e1) (eqb-false t 2 e2) (eqb-false t 3 e3) n in omega (arith, w, h))

  some-states : t ≡ 4 → 0 < length C.ranks
  unfolding refusal end_refusal
  some-states z =
      let n1 = ne_eqb t 1 (λ y. omega arith) in
      let n2 = ne_eqb t 2 (λ y. omega arith) in
      let n3 = ne_eqb t 3 (λ y. omega arith) in
      let a = chosen (not (none_yet C.ranks) && eqb (length c) 0) 0 0 (rw (n1, n2, n3, eq-eqb t 4 z) at h) in
      yet-some C.ranks (both (not (none_yet C.ranks)) _ a.0).0

-- ---- what a table's bytes say

-- what is read
record Said (r : Read) : Type 0 where
  sound : Sound r.contents
  some : r.number ≡ 0 → 0 < length r.contents.ranks

said-end : (C : Contents) (fs : Fields) → Sound C → 0 < length C.ranks → Said (behind_end C fs)
said-end C (stop at) S h = record { sound = S; some = λ z. h }
said-end C (cut at) S h = record { sound = S; some = λ z. h }
said-end C (field at t c fs) S h = record { sound = S; some = λ z. h }

said-field : (C : Contents) (p t : ℕ) (c : List ℕ) (fs : Fields) → Sound C → ((D : Contents) → Sound D → Said (check_fields D fs)) → Said (check_fields C (field p t c fs))
said-field C p t c fs S on = go (refusal C.names C.ranks C.next t c) refl (eqb t 4) refl
  where
    go : (n : ℕ) → refusal C.names C.ranks C.next t c ≡ n → (b : Bool) → eqb t 4 ≡ b → Said (check_fields C (field p t c fs))
    go zero e true f = let z = eqb-true t 4 f in subst Said (sym (check-end C p t c fs z e)) (said-end C fs S (some-states C S t c e z))
    go zero e false f = let z = eqb-false t 4 f in subst Said (sym (check-on C p t c fs z e)) (on (added C t c) (sound-added C S t c e z))
    go (suc r) e b f = subst Said (sym (check-refused C p t c fs r e)) (record { sound = S; some = λ z. absurd (omega arith) })

said-fields : (fs : Fields) (C : Contents) → Sound C → Said (check_fields C fs)
unfolding check_fields
said-fields (stop at) C S = record { sound = S; some = λ z. absurd (omega arith) }
said-fields (cut at) C S = record { sound = S; some = λ z. absurd (omega arith) }
said-fields (field p t c fs) C S = said-field C p t c fs S (λ D U. said-fields fs D U)

sound-nothing : Sound nothing
sound-nothing = record {
  names = omega arith;
  states = omega arith;
  ranks = All-nil (λ n. n ≤ 4);
  rules = All-nil (Fit 0 []);
  early = λ z. refl;
}

module _ (l : List ℕ) where
  said : Said (read l)
  unfolding read
  said = go (leb (length l) 32768) refl
    where
      go : (b : Bool) → leb (length l) 32768 ≡ b → Said (read l)
      go true e = rw (e, read) (said-fields (fields l) nothing sound-nothing)
      go false e = rw (e, read) (record { sound = sound-nothing; some = λ z. absurd (omega arith) })

  -- what is read of a table, accepted or not
  pub sound-read : Sound (read l).contents
  sound-read = said.sound

  -- an accepted table has a state
  pub states-read : (read l).number ≡ 0 → 0 < length (read l).contents.ranks
  states-read h = said.some h

-- ---- the table that is read

-- a right side of the vocabulary, no larger than 64, that owes no more than 8 ends
record Fair (K : Vocabulary) (m : Match) (n : ℕ) (r : Rhs) : Type 0 where
  valid : RhsValid K m n r
  small : rhs_size r ≤ 64
  owes : Owes 0 r

module _ (names : ℕ) (ranks : List ℕ) where
  -- bytes that are not refused as a right side of a state and pattern, where there are some
  abbrev Unrefused : (q p : ℕ) → Option (List ℕ) → Type 0
  Unrefused q p none = Unit {0}
  Unrefused q p (some bs) = side_number names ranks p (get_or ranks q 0) bs ≡ 0

  picked-unrefused : (rs : List Rule) → All (Fit names ranks) rs → (q p k : ℕ) → Unrefused q p (picked rs q p k)
  unfolding picked
  picked-unrefused [] h q p k = tt
  picked-unrefused (r ∷ rs) h q p k = go (is_rule q p k r) refl (picked-unrefused rs (All-tail (Fit names ranks) r rs h) q p k)
    where
      f : Fit names ranks r
      f = All-head (Fit names ranks) r rs h

      go : (b : Bool) → is_rule q p k r ≡ b → Unrefused q p (picked rs q p k) → Unrefused q p (picked (r ∷ rs) q p k)
      go true e u =
          let a = both (eqb r.state q) _ e in
          let s = eqb-true r.state q a.0 in
          let t = eqb-true r.pattern p (both (eqb r.pattern p) _ a.1).0 in
          rw (e, picked) (rw (s, t) at f.side)
      go false e u = rw (e, picked) u

  abbrev FairAt : ℕ → Match → List ℕ → Type 0
  FairAt q m bs = Fair (mentions names ranks) m (get_or ranks q 0) (side_of ranks bs)

  fair-side : (q p : ℕ) (m : Match) → Stands p m → (bs : List ℕ) → Unrefused q p (some bs) → FairAt q m bs
  fair-side q p m s bs h = record {
    valid = side-valid names ranks p (get_or ranks q 0) bs h m s;
    small = side-size names ranks p (get_or ranks q 0) bs h;
    owes = side-owes names ranks p (get_or ranks q 0) bs h;
  }

  fair-empty : (q : ℕ) (m : Match) → FairAt q m []
  unfolding side_of items rhs_of rhs_size
  fair-empty q m = record { valid = tt; small = omega arith; owes = tt }

  fair-picked : (q p : ℕ) (m : Match) → Stands p m → (o : Option (List ℕ)) → Unrefused q p o → FairAt q m (or_empty o)
  fair-picked q p m s none h = fair-empty q m
  fair-picked q p m s (some bs) h = fair-side q p m s bs h

  fair-either : (q k : ℕ) (o o' : Option (List ℕ)) → Unrefused q 1 o → Unrefused q 2 o' → FairAt q (on_element k) (or_empty (or_else o o'))
  fair-either q k none o' h g = fair-picked q 2 (on_element k) (inr refl) o' g
  fair-either q k (some bs) o' h g = fair-side q 1 (on_element k) (inl refl) bs h

  fair-rule : (rs : List Rule) → All (Fit names ranks) rs → (q : ℕ) (m : Match) → FairAt q m (side_for rs q m)
  fair-rule rs h q on_empty = fair-picked q 0 on_empty refl (picked rs q 0 0) (picked-unrefused rs h q 0 0)
  fair-rule rs h q (on_element k) = fair-either q k (picked rs q 1 k) (picked rs q 2 0) (picked-unrefused rs h q 1 k) (picked-unrefused rs h q 2 0)
  fair-rule rs h q on_character = fair-picked q 3 on_character refl (picked rs q 3 0) (picked-unrefused rs h q 3 0)

  size-rule : (r : Rule) → Fit names ranks r → rhs_size (side_of ranks r.side) ≤ 64
  size-rule r f = side-size names ranks r.pattern (get_or ranks r.state 0) r.side f.side

  largest_of-most : (rs : List Rule) → All (Fit names ranks) rs → largest_of ranks rs ≤ 64
  unfolding largest_of
  largest_of-most [] h = omega arith
  largest_of-most (r ∷ rs) h = omega (arith, size-rule r (All-head (Fit names ranks) r rs h), largest_of-most rs (All-tail (Fit names ranks) r rs h))

-- each right side of the table is a rule's or empty, so none is larger than the largest
module _ (ranks : List ℕ) where
  abbrev optional-size : Option (List ℕ) → ℕ
  optional-size o = rhs_size (side_of ranks (or_empty o))

  size-empty : optional-size none ≡ 0
  unfolding side_of items rhs_of rhs_size
  size-empty = refl

  picked-largest : (rs : List Rule) (q p k : ℕ) → optional-size (picked rs q p k) ≤ largest_of ranks rs
  unfolding picked largest_of
  picked-largest [] q p k = omega (arith, size-empty)
  picked-largest (r ∷ rs) q p k = go (is_rule q p k r) (picked-largest rs q p k)
    where
      go : (b : Bool) → optional-size (picked rs q p k) ≤ largest_of ranks rs → optional-size (elim b [ true ↦ some r.side | false ↦ picked rs q p k ]) ≤ max (rhs_size (side_of ranks r.side)) (largest_of ranks rs)
      go true u = omega arith
      go false u = omega (arith, u)

  or_else-largest : (k : ℕ) (o o' : Option (List ℕ)) → optional-size o ≤ k → optional-size o' ≤ k → optional-size (or_else o o') ≤ k
  or_else-largest k none o' h g = g
  or_else-largest k (some bs) o' h g = h

  rule-largest : (rs : List Rule) (q : ℕ) (m : Match) → rhs_size (side_of ranks (side_for rs q m)) ≤ largest_of ranks rs
  rule-largest rs q on_empty = picked-largest rs q 0 0
  rule-largest rs q (on_element n) = or_else-largest (largest_of ranks rs) (picked rs q 1 n) (picked rs q 2 0) (picked-largest rs q 1 n) (picked-largest rs q 2 0)
  rule-largest rs q on_character = picked-largest rs q 3 0

low : (l : List ℕ) (q : ℕ) → All (λ n. n ≤ 4) l → get_or l q 0 ≤ 4
low l q h = go (dec_lt q (length l))
  where
    go : Dec (q < length l) → get_or l q 0 ≤ 4
    go (yes g) = h q 0 g
    go (no g) = omega (arith, get_or_past l q 0 (omega arith))

module _ (l : List ℕ) where
  abbrev pub says : Contents
  says = (read l).contents

  fair-read : (q : ℕ) (m : Match) → Fair (vocabulary says) m ((vocabulary says).rank q) ((rules_of l).rule q m)
  unfolding rules_of table_of
  fair-read q m = fair-rule (length says.names) says.ranks says.rules (sound-read l).rules q m

  -- each right side is one of the vocabulary
  pub proper-rules_of : Proper (vocabulary says) (rules_of l)
  unfolding rules_of table_of
  proper-rules_of = record { ranks = λ q. refl; rules = λ q m. (fair-read q m).valid }

  -- its size is at most 64
  pub size-rules_of : (q : ℕ) (m : Match) → rhs_size ((rules_of l).rule q m) ≤ 64
  size-rules_of q m = (fair-read q m).small

  -- at most 8 ends are owed at any point of it
  pub owes-rules_of : (q : ℕ) (m : Match) → Owes 0 ((rules_of l).rule q m)
  owes-rules_of q m = (fair-read q m).owes

  -- the same of each rule's
  pub sides-read : All (λ r. (rhs_size (side_of says.ranks r.side) ≤ 64) × Owes 0 (side_of says.ranks r.side)) says.rules
  sides-read k d h =
      let r = get_or says.rules k d in
      let f = (sound-read l).rules k d h in
      (size-rule (length says.names) says.ranks r f, side-owes (length says.names) says.ranks r.pattern (get_or says.ranks r.state 0) r.side f.side)

  -- it is no larger than R
  pub size-largest : (q : ℕ) (m : Match) → rhs_size ((rules_of l).rule q m) ≤ largest says
  unfolding rules_of table_of largest
  size-largest q m = rule-largest says.ranks says.rules q m

  -- R is at most 64
  pub largest-most : largest says ≤ 64
  unfolding largest
  largest-most = largest_of-most (length says.names) says.ranks says.rules (sound-read l).rules

  -- a state has at most 4 carried values
  pub rank-most : (q : ℕ) → (rules_of l).rank q ≤ 4
  unfolding rules_of table_of
  rank-most q = low says.ranks q (sound-read l).ranks

  -- so the table is one of those that demand 3 speaks of, where it is linear
  pub small-rules_of : Small (rules_of l) (largest says)
  small-rules_of =
      record {
        four = λ q m j h. uses-known (vocabulary says) m ((vocabulary says).rank q) j (omega (arith, h, low says.ranks q (sound-read l).ranks)) ((rules_of l).rule q m) (proper-rules_of.rules q m);
        most = size-largest;
      }
