-- A right side's items one by one: each turn of the loop over them keeps what is left to decide. Assumes nothing.
use Rattle.std.proofs.Common.{ℕ, suc, ◌≡◌, ◌+◌, ◌*◌, ◌-◌, ◌≤◌, ◌<◌, refl, sym, ap, ◌∙◌, Bool, true, false, cond, not, ◌&&◌, ◌||◌, List, [], ◌∷◌, length, Some, None, Option, add_assoc, add-zero, arith}
use Rattle.std.proofs.Math.Bool.{or-false}
use Rattle.std.proofs.lemmas.List.{nil_from_length}
use Rattle.std.proofs.lemmas.Option.{none-some}
use Rattle.std.proofs.lemmas.Bool.{le-leb, lt-leb, ltb-true, ltb-false}
use Rattle.std.proofs.Math.Dec.{leb, ltb}
use Rattle.meaning.specs.Rules.{Source}
use Rattle.table.specs.Side.{Item, Kind, is10, is11, is12, is13, is14, is15, is1F, is_none, kind_of, first, state15, put, source_of, call_from, item_from, items, allowed, all_allowed, owed, due, closed, few, words, words_of, judged, side_number}
use Rattle.table.specs.Items.{with_source, told, front}
use Rattle.table.specs.Tally.{tallied, verdict}
use Rattle.table.specs.declared.side.Tally.{Tally}
use Rattle.std.proofs.Math.Option as maybe

-- an item in front: it must be allowed and due, and then the rest decides
joined : (a e f g o x y w : Bool)
    → ◌≡◌ {A = ℕ} (cond ((a && e) && (f && g)) (cond (o || (x || not (not y && w))) 2 0) 3) (cond (a && f) (cond (e && g) (cond ((o || y) || (x || not w)) 2 0) 3) 3)
joined false e f g o x y w = refl
joined true false false g o x y w = refl
joined true false true g o x y w = refl
joined true true false g o x y w = refl
joined true true true false o x y w = refl
joined true true true true true x y w = refl
joined true true true true false true true w = refl
joined true true true true false true false w = refl
joined true true true true false false true w = refl
joined true true true true false false false w = refl

not_over : (d : ℕ) → leb d 8 ≡ not (ltb 8 d)
not_over d = go (ltb 8 d) refl
  where
    go : (t : Bool) → ltb 8 d ≡ t → leb d 8 ≡ not t
    go true e = lt-leb d 8 (ltb-true 8 d e)
    go false e = le-leb d 8 (ltb-false 8 d e)

either : (t : Bool) → ◌≡◌ {A = ℕ} 3 (cond t 3 3)
either true = refl
either false = refl

-- the items that bytes spell, by the item at their front
spell : Option (Item × List ℕ) → maybe.Option (List Item)
spell None = maybe.none
spell (Some p) = put p.0 (items p.1 first)

cut-source : (o : maybe.Option Source) → call_from o (λ x. items [] (state15 x)) ≡ maybe.none
unfolding items
cut-source maybe.none = refl
cut-source (maybe.some x) = refl

source-state : (o : maybe.Option Source) (q : ℕ) (k : List ℕ) → call_from o (λ x. items (q ∷ k) (state15 x)) ≡ spell (with_source o q k)
unfolding items spell
source-state maybe.none q k = refl
source-state (maybe.some x) q k = refl

by_kind : (x : Kind) (k : List ℕ) → item_from x (λ w. items k w) ≡ spell (told x k)
unfolding items spell
by_kind is10 [] = refl
by_kind is10 (y ∷ k) = refl
by_kind is11 k = refl
by_kind is12 [] = refl
by_kind is12 (y ∷ k) = refl
by_kind is13 k = refl
by_kind is14 [] = refl
by_kind is14 (y ∷ k) = refl
by_kind is15 [] = refl
by_kind is15 (y ∷ []) = cut-source (source_of y)
by_kind is15 (y ∷ q ∷ k) = source-state (source_of y) q k
by_kind is1F k = refl
by_kind is_none k = refl

spelled : (l : List ℕ) → 0 < length l → items l first ≡ spell (front l)
unfolding items front
spelled [] h = absurd (omega arith)
spelled (b ∷ k) h = by_kind (kind_of b) k

-- the item at the front takes at least a byte
shorter : (x : Kind) (k : List ℕ) (p : Item × List ℕ) → told x k ≡ Some p → length p.1 ≤ length k
shorter is10 [] p e = cc
shorter is10 (y ∷ k) p e = let f : k ≡ p.1 = cc in omega (arith, ap length f)
shorter is11 k p e = let f : k ≡ p.1 = cc in omega (arith, ap length f)
shorter is12 [] p e = cc
shorter is12 (y ∷ k) p e = let f : k ≡ p.1 = cc in omega (arith, ap length f)
shorter is13 k p e = let f : k ≡ p.1 = cc in omega (arith, ap length f)
shorter is14 [] p e = cc
shorter is14 (y ∷ k) p e = let f : k ≡ p.1 = cc in omega (arith, ap length f)
shorter is15 [] p e = cc
shorter is15 (y ∷ []) p e = cc
shorter is15 (y ∷ q ∷ k) p e = of (source_of y) e
  where
    of : (o : maybe.Option Source) → with_source o q k ≡ Some p → length p.1 ≤ suc (suc (length k))
    of maybe.none e = cc
    of (maybe.some x) e = let f : k ≡ p.1 = cc in omega (arith, ap length f)
shorter is1F k p e = let f : k ≡ p.1 = cc in omega (arith, ap length f)
shorter is_none k p e = cc

pub front_shorter : (l : List ℕ) (i : Item) (k : List ℕ) → front l ≡ Some (i, k) → length k < length l
unfolding front
front_shorter [] i k e = cc
front_shorter (b ∷ l) i k e = omega (arith, shorter (kind_of b) l (i, k) e)

module _ (names : ℕ) (ranks : List ℕ) (p n : ℕ) where
  pub judged-put : (i : Item) (o : maybe.Option (List Item)) (d s : ℕ) (over : Bool)
      → judged names ranks p n (put i o) d s over
      ≡ cond (allowed names ranks p n i && due ranks i d) (judged names ranks p n o (owed ranks i d) (s + words ranks i) (over || ltb 8 (owed ranks i d))) 3
  unfolding judged all_allowed closed few words_of
  judged-put i maybe.none d s over = either (allowed names ranks p n i && due ranks i d)
  judged-put i (maybe.some is) d s over =
      rw (not_over (owed ranks i d), ← add_assoc s (words ranks i) (words_of ranks is))
      (joined (allowed names ranks p n i) (all_allowed names ranks p n is) (due ranks i d) (closed ranks is (owed ranks i d)) over (ltb 64 (s + words ranks i + words_of ranks is)) (ltb 8 (owed ranks i d)) (few ranks is (owed ranks i d)))

  -- the number of a right side of which the bytes l are left
  abbrev left : List ℕ → Tally → ℕ
  left l t = judged names ranks p n (items l first) t.owed t.words t.over

  -- what is left decides the number of the whole, and a tally is no larger than the bytes that it counts
  pub record Left (bytes rest : List ℕ) (t : Tally) : Type 0 where
    pub high : length rest ≤ length bytes
    pub owes : t.owed ≤ 255 * (length bytes - length rest)
    pub small : t.words ≤ 65535 * (length bytes - length rest)
    pub decides : left rest t ≡ side_number names ranks p n bytes

  pub left_all : (bytes : List ℕ) → Left bytes bytes (record { owed = 0; words = 0; over = false })
  unfolding side_number
  left_all bytes = record { high = omega arith; owes = omega arith; small = omega arith; decides = refl }

  module _ (bytes rest : List ℕ) (t : Tally) (L : Left bytes rest t) where
    -- no item stands at the front
    pub left_unread : 0 < length rest → front rest ≡ None → 3 ≡ side_number names ranks p n bytes
    unfolding judged spell
    left_unread h e = sym (rw (spelled rest h, e)) ∙ L.decides

    module _ (i : Item) (k : List ℕ) (e : front rest ≡ Some (i, k)) where
      next : left rest t ≡ judged names ranks p n (put i (items k first)) t.owed t.words t.over
      unfolding spell
      next = rw (spelled rest (omega (arith, front_shorter rest i k e)), e)

      abbrev may : Bool
      may = allowed names ranks p n i && due ranks i t.owed

      turn : left rest t ≡ cond may (judged names ranks p n (items k first) (owed ranks i t.owed) (t.words + words ranks i) (t.over || ltb 8 (owed ranks i t.owed))) 3
      turn = next ∙ judged-put i (items k first) t.owed t.words t.over

      -- the item at the front may not stand there
      pub left_unfit : tallied names ranks p n t i ≡ None → 3 ≡ side_number names ranks p n bytes
      left_unfit f = go may refl
        where
          go : (b : Bool) → may ≡ b → 3 ≡ side_number names ranks p n bytes
          go true m = absurd (none-some _ (sym (rw m at f)))
          go false m = sym (turn ∙ rw m) ∙ L.decides

      pub left_more : (u : Tally) → tallied names ranks p n t i ≡ Some u → u.owed ≤ t.owed + 255 → u.words ≤ t.words + 65535 → Left bytes k u
      left_more u f g h =
          record {
            high = omega (arith, L.high, front_shorter rest i k e);
            owes = omega (arith, L.high, L.owes, front_shorter rest i k e);
            small = omega (arith, L.high, L.small, front_shorter rest i k e);
            decides = go may refl;
          }
        where
          go : (b : Bool) → may ≡ b → left k u ≡ side_number names ranks p n bytes
          go true m =
              let r : ◌≡◌ {A = Tally} (record { owed = owed ranks i t.owed; words = t.words + words ranks i; over = t.over || ltb 8 (owed ranks i t.owed) }) u = cc (rw m at f) in
              sym (ap (left k) r) ∙ sym (turn ∙ rw m) ∙ L.decides
          go false m = absurd (none-some u (rw m at f))

    pub left_none : length rest ≡ 0 → verdict t.owed t.words t.over ≡ side_number names ranks p n bytes
    unfolding items judged all_allowed closed few words_of
    left_none h =
        sym (ap (λ (k : List ℕ). left k t) (nil_from_length rest h) ∙ rw (add-zero t.words, or-false (ltb 64 t.words))) ∙ L.decides

-- what the check uses to prove the loop over a right side
pub ruleset side_laws = (left_all, left_unread, left_unfit, left_more, left_none, front_shorter)
