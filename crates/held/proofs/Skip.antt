-- Skipping arguments by their words is skipping the arguments: `skipped_args`, `stands_argument`; and a skip's single step.
-- Assumes nothing.
use Rattle.std.proofs.Common.{ℕ, zero, suc, ◌+◌, ◌-◌, ◌≤◌, ◌<◌, ◌≡◌, min, List, [], ◌∷◌, ◌++◌, length, get_or, take, drop, slice_range, refl, sym, ap, ap₂, ◌∙◌, append_assoc, arith, zero-add, add-zero, suc-add, length-append, length-drop, drop_of_length-le}
use Rattle.std.proofs.Math.Decide.{dec_le}
use Rattle.std.proofs.Math.Nat.{min-eq_left}
use Rattle.std.proofs.Math.Seq.{slice, length-slice, drop-append-add, take-append_seam, drop-append_seam}
use Rattle.std.proofs.lemmas.List.{drop_more, take_rest}
use Rattle.meaning.specs.Held.{Expr, Args, ε, opening, closing, chr, wait, ∅, also, argument}
use Rattle.meaning.specs.Valid.{Vocabulary, Count, Valid, ValidAll}
use Rattle.held.specs.Words.{start_word, end_word, char_word, call_word, close_word, Room, flat, flats, Item, start_item, end_item, char_item, call_item, close_item, item_of}
use Rattle.held.specs.Scan.{owe}
use Rattle.held.specs.Skip.{args_len, Skipped, Stands}
use Rattle.held.proofs.Area.{slice_from, slice_to, slice_to_end, slice-slice_range}
use Rattle.held.proofs.Words.{item_start, item_end, item_char, item_call, item_close, state_room, level_room}
use Rattle.held.proofs.Scan.{owe_low}

module _ (K : Vocabulary) where
  -- one word more
  len_word : (w : ℕ) (x : Item) (ws : List ℕ) (n : ℕ) → item_of w ≡ x → args_len K (w ∷ ws) (suc n) ≡ suc (args_len K ws (owe K x (suc n)))
  unfolding args_len
  len_word w x ws n h = ap (λ (y : Item). suc (args_len K ws (owe K y (suc n)))) h

  len_owed : (w : ℕ) (ws : List ℕ) (n : ℕ) → 0 < n → args_len K (w ∷ ws) n ≡ suc (args_len K ws (owe K (item_of w) n))
  len_owed w ws zero h = absurd (omega arith)
  len_owed w ws (suc n) h = len_word w (item_of w) ws n refl

  pub len_none : (ws : List ℕ) → args_len K ws 0 ≡ 0
  unfolding args_len
  len_none [] = refl
  len_none (w ∷ ws) = refl

  pub len_most : (ws : List ℕ) (n : ℕ) → args_len K ws n ≤ length ws
  unfolding args_len
  len_most [] n = omega arith
  len_most (w ∷ ws) zero = omega arith
  len_most (w ∷ ws) (suc n) = omega (arith, len_most ws (owe K (item_of w) (suc n)))

  module _ (d : ℕ) (R : Room K d) where
    mutual
      unfolding flat owe

      -- an expression is passed with the same ends owed
      len_expr : (e : Expr) (ws : List ℕ) (n : ℕ) → Valid K d e → args_len K (flat e ++ ws) (suc n) ≡ length (flat e) + args_len K ws (suc n)
      len_expr ε ws n v = sym (zero-add _)
      len_expr (opening m e) ws n v = len_word (start_word m) (start_item m) (flat e ++ ws) n (item_start m (omega (arith, R.names))) ∙ rw (len_expr e ws n v.1, suc-add)
      len_expr (closing m e) ws n v = len_word (end_word m) (end_item m) (flat e ++ ws) n (item_end m (omega (arith, R.names))) ∙ rw (len_expr e ws n v.1, suc-add)
      len_expr (chr c e) ws n v = len_word (char_word c) (char_item c) (flat e ++ ws) n (item_char c (R.leaves c v.0)) ∙ rw (len_expr e ws n v.1, suc-add)
      len_expr (wait q i es e) ws n v =
          len_word (call_word q (suc i)) (call_item q (suc i)) ((flats es ++ flat e) ++ ws) n (item_call q (suc i) (state_room K d R q v.0) (level_room K d R i v.1))
          ∙ rw append_assoc
          (omega (arith, len_args es (K.rank q) (flat e ++ ws) (suc n) v.2 v.3, len_expr e ws n v.4, length-append (flats es) (flat e)))

      -- arguments are passed with their ends
      len_args : (es : Args) (m : ℕ) (ws : List ℕ) (n : ℕ) → Count es m → ValidAll K d es → args_len K (flats es ++ ws) (m + n) ≡ length (flats es) + args_len K ws n
      len_args ∅ zero ws n c v = ap (args_len K ws) (zero-add n) ∙ sym (zero-add _)
      len_args ∅ (suc m) ws n c v = absurd c
      len_args (also e es) zero ws n c v = absurd c
      len_args (also e es) (suc m) ws n c v =
          ap₂ (args_len K) (append_assoc (flat e) (close_word ∷ flats es) ws) (suc-add m n)
          ∙ len_expr e (close_word ∷ (flats es ++ ws)) (m + n) v.0
          ∙ omega (arith, len_word close_word close_item (flats es ++ ws) (m + n) item_close, len_args es m ws n c v.1, length-append (flat e) (close_word ∷ flats es))

    -- as many words as the arguments have
    pub len_flats : (es : Args) (m : ℕ) (ws : List ℕ) → Count es m → ValidAll K d es → args_len K (flats es ++ ws) m ≡ length (flats es)
    len_flats es m ws c v = ap (args_len K (flats es ++ ws)) (sym (add-zero m)) ∙ len_args es m ws 0 c v ∙ rw (len_none ws, add-zero)

    -- one argument, and then the others
    len_first : (e : Expr) (ws : List ℕ) (j : ℕ) → Valid K d e → args_len K (flat e ++ (close_word ∷ ws)) (suc j) ≡ length (flat e) + suc (args_len K ws j)
    unfolding owe
    len_first e ws j v = len_expr e (close_word ∷ ws) j v ∙ ap (λ (k : ℕ). length (flat e) + k) (len_word close_word close_item ws j item_close)

    -- behind the first j arguments stands the argument j, and then its end
    drop_args : (es : Args) (m j : ℕ) (ws : List ℕ) → Count es m → ValidAll K d es → j < m → (tail : List ℕ) × (drop (args_len K (flats es ++ ws) j) (flats es ++ ws) ≡ flat (argument es j) ++ (close_word ∷ tail))
    unfolding flat argument
    drop_args ∅ zero j ws c v h = absurd (omega arith)
    drop_args ∅ (suc m) j ws c v h = absurd c
    drop_args (also e es) zero j ws c v h = absurd c
    drop_args (also e es) (suc m) zero ws c v h = (flats es ++ ws, rw len_none (append_assoc (flat e) (close_word ∷ flats es) ws))
    drop_args (also e es) (suc m) (suc j) ws c v h =
        let r = drop_args es m j ws c v.1 (omega arith) in (
          r.0,
          rw append_assoc
              (ap (λ (k : ℕ). drop k (flat e ++ (close_word ∷ (flats es ++ ws)))) (len_first e (flats es ++ ws) j v.0)
              ∙ drop-append-add (flat e) (close_word ∷ (flats es ++ ws)) (suc (args_len K (flats es ++ ws) j))
              ∙ r.1),
        )

    valid-argument : (es : Args) (j : ℕ) → ValidAll K d es → Valid K d (argument es j)
    unfolding argument
    valid-argument ∅ j v = tt
    valid-argument (also e es) zero v = v.0
    valid-argument (also e es) (suc j) v = valid-argument es j v.1

    -- the arguments es, and what stands behind them
    module _ (es : Args) (m : ℕ) (rest : List ℕ) (c : Count es m) (v : ValidAll K d es) (area : List ℕ) (from to : ℕ) (w : slice from to area ≡ flats es ++ rest) where
      -- the place after them
      pub skipped_args : (r : ℕ) → Skipped K area from to m r → (slice from r area ≡ flats es) × (slice r to area ≡ rest)
      skipped_args r s =
          let p : r ≡ from + length (flats es) = s.place ∙ ap (λ (k : ℕ). from + k) (ap (λ (l : List ℕ). args_len K l m) w ∙ len_flats es m rest c v) in (
            ap (λ (k : ℕ). slice from k area) p ∙ slice_to from (length (flats es)) to area (omega (arith, s.high)) ∙ ap (take (length (flats es))) w ∙ take-append_seam (flats es) rest,
            ap (λ (k : ℕ). slice k to area) p ∙ slice_from from (length (flats es)) to area ∙ ap (drop (length (flats es))) w ∙ drop-append_seam (flats es) rest,
          )

      -- the place of one of them
      pub stands_argument : (j a z : ℕ) → j < m → Stands K area from to j a z → slice a z area ≡ flat (argument es j)
      stands_argument j a z h s =
          let x = argument es j in
          let t = drop_args es m j rest c v h in
          let b : slice a to area ≡ flat x ++ (close_word ∷ t.0) =
          ap (λ (k : ℕ). slice k to area) s.starts ∙ slice_from from (args_len K (slice from to area) j) to area ∙ ap (λ (l : List ℕ). drop (args_len K l j) l) w ∙ t.1 in
          let n : args_len K (slice a to area) 1 ≡ length (flat x) + 1 = ap (λ (l : List ℕ). args_len K l 1) b ∙ len_first x t.0 0 (valid-argument es j v) ∙ rw (len_none t.0) (omega arith) in
          let p : z ≡ a + length (flat x) = omega (arith, s.ends, n) in
          ap (λ (k : ℕ). slice a k area) p ∙ slice_to a (length (flat x)) to area (omega (arith, s.high)) ∙ ap (take (length (flat x))) b ∙ take-append_seam (flat x) (close_word ∷ t.0)

-- with as many ends owed as there are words, or more, all are passed
module _ (K : Vocabulary) where
  pub len_long : (ws : List ℕ) (n : ℕ) → length ws ≤ n → args_len K ws n ≡ length ws
  unfolding args_len
  len_long [] n h = refl
  len_long (w ∷ ws) zero h = absurd (omega arith)
  len_long (w ∷ ws) (suc n) h = ap suc (len_long ws (owe K (item_of w) (suc n)) (omega (arith, owe_low K 0 (item_of w) (suc n))))

  -- so a skip needs no number above the words that are left
  len_capped : (ws : List ℕ) (n m : ℕ) → length ws ≤ m → Dec (n ≤ m) → args_len K ws (min n m) ≡ args_len K ws n
  len_capped ws n m h (yes l) = ap (args_len K ws) (min-eq_left l)
  len_capped ws n m h (no l) = len_long ws (min n m) (omega arith) ∙ sym (len_long ws n (omega arith))

-- a skip along words, with no number above m
module _ (K : Vocabulary) (words : List ℕ) (at n : ℕ) where
  pub skip_more : (m : ℕ) → at < length words → length words ≤ m → 0 < n → at + 1 + args_len K (drop (at + 1) words) (min (owe K (item_of (get_or words at 0)) n) m) ≡ at + args_len K (drop at words) n
  skip_more m h l k =
      let r = drop (at + 1) words in
      let b : length r ≤ m = omega (arith, length-drop (at + 1) words) in
      let e = len_capped K r (owe K (item_of (get_or words at 0)) n) m b (dec_le _ m) in
      let f : args_len K (drop at words) n ≡ suc (args_len K r (owe K (item_of (get_or words at 0)) n)) = ap (λ (ws : List ℕ). args_len K ws n) (drop_more words at 0 h) ∙ len_owed K (get_or words at 0) r n k in
      omega (arith, e, f)

  pub skip_end : length words ≤ at → at + args_len K (drop at words) n ≡ at
  unfolding args_len
  skip_end h = rw (drop_of_length-le words h, add-zero)

  pub skip_none : n ≡ 0 → at + args_len K (drop at words) n ≡ at
  skip_none h = rw (h, len_none K (drop at words), add-zero)

-- what is said of the words `&area[from..to]`, said of the area
module _ (K : Vocabulary) (area : List ℕ) (from to : ℕ) (low : from ≤ to) (high : to ≤ length area) where
  pub skipped_part : (n : ℕ) → Skipped K area from to n (from + args_len K (slice_range area from to) n)
  skipped_part n =
      let l = len_most K (slice from to area) n in
      let e = ap (λ (l : List ℕ). args_len K l n) (slice-slice_range from to area low) in
      record { place = omega (arith, e); low = omega arith; high = omega (arith, l, e, length-slice from to area high) }

  stands_slice : (j a z : ℕ) → Stands K (slice from to area) 0 (length (slice from to area)) j a z → Stands K area from to j (from + a) (from + z)
  stands_slice j a z s =
      let part = slice from to area in
      let n = length-slice from to area high in
      let b : slice a (length part) part ≡ slice (from + a) to area = slice_to_end a part ∙ sym (slice_from from a to area) in
      let e : args_len K (slice a (length part) part) 1 ≡ args_len K (slice (from + a) to area) 1 = ap (λ (l : List ℕ). args_len K l 1) b in
      record {
        starts = omega (arith, s.starts, ap (λ (l : List ℕ). args_len K l j) (slice_to_end 0 part));
        ends = omega (arith, s.ends, e);
        low = omega arith;
        order = omega (arith, s.order);
        high = omega (arith, s.high, n);
      }

  pub stands_part : (j a z : ℕ) → Stands K (slice_range area from to) 0 (length (slice_range area from to)) j a z → Stands K area from to j (from + a) (from + z)
  stands_part j a z s = stands_slice j a z (rw (slice-slice_range from to area low) s)

-- the argument j among words, by its first place a and the n words up to its end
pub stands_words : (K : Vocabulary) (words : List ℕ) (j a n m : ℕ) → a ≡ args_len K words j → n ≡ args_len K (drop a words) 1 → m ≡ n - 1 → Stands K words 0 (length words) j a (a + m)
stands_words K words j a n m h k e =
    let l = len_most K words j in
    let b = len_most K (drop a words) 1 in
    record {
      starts = h ∙ omega (arith, ap (λ (l : List ℕ). args_len K l j) (slice_to_end 0 words));
      ends = omega (arith, k, e, ap (λ (l : List ℕ). args_len K l 1) (slice_to_end a words));
      low = omega arith;
      order = omega arith;
      high = omega (arith, h, k, l, b, length-drop a words);
    }

-- what the code of arguments.rt needs of these
pub ruleset skip_laws = (skip_more, skip_end, skip_none, stands_words, len_most, take_rest)
