-- The scan passes the words of the table's held expressions, and no others: `held_encodes`, `encodes_held`, `encodes_read`.
-- Assumes nothing.
use Rattle.std.proofs.Common.{ℕ, zero, suc, pred, ◌+◌, ◌≤◌, ◌<◌, ◌≡◌, min, List, [], ◌∷◌, ◌++◌, Bool, true, false, ◌&&◌, cond, T, eqb, ltb, leb, length, get_or, drop, refl, sym, ap, ap₂, ◌∙◌, subst, append_assoc, append-nil, arith, zero-add, add-zero, suc-add, eq-eqb, ne_eqb, lt-ltb, le-leb, ltb-true, leb-true, eqb-true, length-drop, drop_of_length-le}
use Rattle.std.proofs.Math.Bool.{and-false}
use Rattle.std.proofs.Math.Decide.{ℕ_discrete, dec_le}
use Rattle.std.proofs.Math.Nat.{min-eq_left}
use Rattle.std.proofs.lemmas.List.{drop_more}
use Rattle.meaning.specs.Held.{Expr, Args, ε, opening, closing, chr, wait, ∅, also, Begins}
use Rattle.meaning.specs.Valid.{Vocabulary, Count, Valid, ValidAll}
use Rattle.held.specs.Words.{call_kind, start_word, end_word, char_word, call_word, close_word, Room, flat, flats, kind_of, Item, start_item, end_item, char_item, call_item, close_item, no_item, item_of, word_of, args_from, read_item, expr_at}
use Rattle.held.specs.Scan.{call_fits, fits, owe, scan, begins, is_held, Encodes}
use Rattle.held.proofs.Room.{leaf-high}
use Rattle.held.proofs.Words.{of_close, of_call, word_item, item_start, item_end, item_char, kind_call, item_call, item_close, state_room, level_room, read-flat}

-- both of two tests
pub both : (a b : Bool) → (a && b) ≡ true → (a ≡ true) × (b ≡ true)
both true b h = (refl, h)
both false b h = cc

pub true-T : (b : Bool) → b ≡ true → T b
true-T true h = tt
true-T false h = cc

pub T_true : (b : Bool) → T b → b ≡ true
T_true true t = refl
T_true false t = absurd t

-- n + 1 expressions as words, with an end after each but the last
joined : ℕ → (ℕ → Expr) → List ℕ
joined zero f = flat (f 0)
joined (suc n) f = flat (f 0) ++ (close_word ∷ joined n (λ i. f (suc i)))

-- the first r of them as arguments
joined_args : (r n : ℕ) (f : ℕ → Expr) → joined (r + n) f ≡ flats (args_from r f) ++ joined n (λ i. f (r + i))
unfolding joined flat args_from
joined_args zero n f = simp zero-add
joined_args (suc r) n f = simp (suc-add, append_assoc) (ap (λ (l : List ℕ). flat (f 0) ++ (close_word ∷ l)) (joined_args r n (λ i. f (suc i))))

never : {A : Type 0} → false ≡ true → A
never h = cc

module _ (K : Vocabulary) (d : ℕ) where
  -- what a call's test says
  record Callable (q l : ℕ) : Type 0 where
    known : q < K.states
    low : 0 < l
    high : l ≤ d + 1

  callable : (q l : ℕ) → call_fits K d q l ≡ true → Callable q l
  callable q l h =
      let a = both (ltb q K.states) _ h in
      let b = both (ltb 0 l) (leb l (d + 1)) a.1 in
      record { known = ltb-true q _ a.0; low = ltb-true 0 l b.0; high = leb-true l (d + 1) b.1 }

  -- a word that fits, in front of the expressions that are read behind it
  joined_item : (x : Item) (f : ℕ → Expr) (n : ℕ) → fits K d x n ≡ true → joined n (read_item K.rank x f) ≡ word_of x ∷ joined (owe K x n) f
  unfolding joined flat read_item fits owe
  joined_item (start_item m) f zero h = refl
  joined_item (start_item m) f (suc n) h = refl
  joined_item (end_item m) f zero h = refl
  joined_item (end_item m) f (suc n) h = refl
  joined_item (char_item c) f zero h = refl
  joined_item (char_item c) f (suc n) h = refl
  joined_item (call_item q l) f zero h =
      let c = callable q l h in
      let p : suc (pred l) ≡ l = omega (arith, c.low) in
      ap₂ (λ (k : ℕ) (ws : List ℕ). call_word q k ∷ ws) p (ap (λ (i : ℕ). flats (args_from (K.rank q) f) ++ flat (f i)) (sym (add-zero (K.rank q))) ∙ sym (joined_args (K.rank q) 0 f))
  joined_item (call_item q l) f (suc n) h =
      let c = callable q l h in
      let p : suc (pred l) ≡ l = omega (arith, c.low) in
      ap₂ (λ (k : ℕ) (ws : List ℕ). call_word q k ∷ ws) p
      (append_assoc (flats (args_from (K.rank q) f)) (flat (f (K.rank q))) _
      ∙ ap (λ (i : ℕ). flats (args_from (K.rank q) f) ++ (flat (f i) ++ (close_word ∷ joined n (λ j. f (K.rank q + suc j))))) (sym (add-zero (K.rank q)))
      ∙ sym (joined_args (K.rank q) (suc n) f))
  joined_item close_item f zero h = absurd (omega (arith, ltb-true 0 0 h))
  joined_item close_item f (suc n) h = refl
  joined_item no_item f n h = never h

  says : (w n : ℕ) → fits K d (item_of w) n ≡ true → item_of w ≡ no_item → ⊥
  unfolding fits
  says w n h z = never (sym (ap (λ (x : Item). fits K d x n) z) ∙ h)

  -- words that pass are those of the expressions that are read from them
  joined_read : (ws : List ℕ) (n : ℕ) → scan K d ws n ≡ true → joined n (expr_at K.rank ws) ≡ ws
  unfolding scan expr_at joined flat
  joined_read [] zero h = refl
  joined_read [] (suc n) h = absurd (omega (arith, eqb-true (suc n) 0 h))
  joined_read (w ∷ ws) n h =
      let p = both (fits K d (item_of w) n) _ h in
      joined_item (item_of w) (expr_at K.rank ws) n p.0 ∙ ap₂ (λ (k : ℕ) (l : List ℕ). k ∷ l) (word_item w (says w n p.0)) (joined_read ws (owe K (item_of w) n) p.1)

  pub flat-read : (ws : List ℕ) → scan K d ws 0 ≡ true → flat (expr_at K.rank ws 0) ≡ ws
  unfolding joined
  flat-read ws h = joined_read ws 0 h

  count_args : (n : ℕ) (f : ℕ → Expr) → Count (args_from n f) n
  unfolding args_from
  count_args zero f = tt
  count_args (suc n) f = count_args n (λ i. f (suc i))

  valid_args : (n : ℕ) (f : ℕ → Expr) → ((i : ℕ) → i < n → Valid K d (f i)) → ValidAll K d (args_from n f)
  unfolding args_from
  valid_args zero f v = tt
  valid_args (suc n) f v = (v 0 (omega arith), valid_args n (λ i. f (suc i)) (λ i h. v (suc i) (omega arith)))

  -- and these are expressions of the vocabulary
  valid_item : (x : Item) (f : ℕ → Expr) (n : ℕ) → fits K d x n ≡ true → ((i : ℕ) → i ≤ owe K x n → Valid K d (f i)) → (i : ℕ) → i ≤ n → Valid K d (read_item K.rank x f i)
  unfolding read_item fits owe
  valid_item (start_item m) f n h v zero l = (ltb-true m K.names h, v 0 (omega arith))
  valid_item (start_item m) f n h v (suc i) l = v (suc i) l
  valid_item (end_item m) f n h v zero l = (ltb-true m K.names h, v 0 (omega arith))
  valid_item (end_item m) f n h v (suc i) l = v (suc i) l
  valid_item (char_item c) f n h v zero l = (true-T (K.is_leaf c) h, v 0 (omega arith))
  valid_item (char_item c) f n h v (suc i) l = v (suc i) l
  valid_item (call_item q k) f n h v zero l =
      let c = callable q k h in
      (c.known, omega (arith, c.low, c.high), count_args (K.rank q) f, valid_args (K.rank q) f (λ i g. v i (omega arith)), v (K.rank q) (omega arith))
  valid_item (call_item q k) f n h v (suc i) l = v (K.rank q + suc i) (omega arith)
  valid_item close_item f n h v zero l = tt
  valid_item close_item f n h v (suc i) l = let g : i ≤ pred n = omega arith in v i g
  valid_item no_item f n h v i l = never h

  valid-reads : (ws : List ℕ) (n : ℕ) → scan K d ws n ≡ true → (i : ℕ) → i ≤ n → Valid K d (expr_at K.rank ws i)
  unfolding scan expr_at
  valid-reads [] n h i l = tt
  valid-reads (w ∷ ws) n h i l =
      let p = both (fits K d (item_of w) n) _ h in
      valid_item (item_of w) (expr_at K.rank ws) n p.0 (valid-reads ws (owe K (item_of w) n) p.1) i l

  pub valid-read : (ws : List ℕ) → scan K d ws 0 ≡ true → Valid K d (expr_at K.rank ws 0)
  valid-read ws h = valid-reads ws 0 h 0 (omega arith)

  pub begins-read : (ws : List ℕ) → begins ws ≡ true → Begins (expr_at K.rank ws 0)
  unfolding begins expr_at read_item
  begins-read [] h = tt
  begins-read (w ∷ ws) h = subst (λ (x : Item). Begins (read_item K.rank x (expr_at K.rank ws) 0)) (sym (of_call w (eqb-true (kind_of w) call_kind h))) tt

  -- the words that pass encode what is read from them
  pub held_encodes : (ws : List ℕ) → is_held K d ws ≡ true → Encodes K d ws
  held_encodes ws h =
      let p = both (begins ws) (scan K d ws 0) h in
      record { expr = expr_at K.rank ws 0; valid = valid-read ws p.1; first = begins-read ws p.0; words = flat-read ws p.1 }

  -- the words of an expression of the vocabulary pass, whatever is owed
  module _ (R : Room K d) where
    scan_word_lem : (w : ℕ) (x : Item) (ws : List ℕ) (n : ℕ) → item_of w ≡ x → fits K d x n ≡ true → scan K d (w ∷ ws) n ≡ scan K d ws (owe K x n)
    unfolding scan
    scan_word_lem w x ws n h k = rw (h, k)

    mutual
      unfolding flat fits owe

      scan-expr : (e : Expr) (ws : List ℕ) (n : ℕ) → Valid K d e → scan K d (flat e ++ ws) n ≡ scan K d ws n
      scan-expr ε ws n v = refl
      scan-expr (opening m e) ws n v = scan_word_lem (start_word m) (start_item m) (flat e ++ ws) n (item_start m (omega (arith, R.names))) (lt-ltb m K.names v.0) ∙ scan-expr e ws n v.1
      scan-expr (closing m e) ws n v = scan_word_lem (end_word m) (end_item m) (flat e ++ ws) n (item_end m (omega (arith, R.names))) (lt-ltb m K.names v.0) ∙ scan-expr e ws n v.1
      scan-expr (chr c e) ws n v = scan_word_lem (char_word c) (char_item c) (flat e ++ ws) n (item_char c (R.leaves c v.0)) (T_true (K.is_leaf c) v.0) ∙ scan-expr e ws n v.1
      scan-expr (wait q i es e) ws n v =
          scan_word_lem (call_word q (suc i)) (call_item q (suc i)) ((flats es ++ flat e) ++ ws) n (item_call q (suc i) (state_room K d R q v.0) (level_room K d R i v.1))
          (simp (lt-ltb q K.states v.0, lt-ltb 0 (suc i) (omega arith), le-leb (suc i) (d + 1) (omega arith)))
          ∙ rw append_assoc (scan_args es (K.rank q) (flat e ++ ws) n v.2 v.3)
          ∙ scan-expr e ws n v.4

      scan_args : (es : Args) (m : ℕ) (ws : List ℕ) (n : ℕ) → Count es m → ValidAll K d es → scan K d (flats es ++ ws) (m + n) ≡ scan K d ws n
      scan_args ∅ zero ws n c v = ap (scan K d ws) (zero-add n)
      scan_args ∅ (suc m) ws n c v = absurd c
      scan_args (also e es) zero ws n c v = absurd c
      scan_args (also e es) (suc m) ws n c v =
          ap₂ (scan K d) (append_assoc (flat e) (close_word ∷ flats es) ws) (suc-add m n)
          ∙ scan-expr e (close_word ∷ (flats es ++ ws)) (suc (m + n)) v.0
          ∙ scan_word_lem close_word close_item (flats es ++ ws) (suc (m + n)) item_close (lt-ltb 0 (suc (m + n)) (omega arith))
          ∙ scan_args es m ws n c v.1

    pub scan-flat : (e : Expr) → Valid K d e → scan K d (flat e) 0 ≡ true
    unfolding scan
    scan-flat e v = ap (λ (l : List ℕ). scan K d l 0) (sym (append-nil (flat e))) ∙ scan-expr e [] 0 v

    pub begins-flat : (e : Expr) → Valid K d e → Begins e → begins (flat e) ≡ true
    unfolding flat begins
    begins-flat ε v b = refl
    begins-flat (opening m e) v b = absurd b
    begins-flat (closing m e) v b = absurd b
    begins-flat (chr c e) v b = absurd b
    begins-flat (wait q i es e) v b = eq-eqb (kind_of (call_word q (suc i))) call_kind (kind_call q (suc i) (state_room K d R q v.0) (level_room K d R i v.1))

    pub encodes_held : (ws : List ℕ) → Encodes K d ws → is_held K d ws ≡ true
    encodes_held ws h = rw (← h.words, begins-flat h.expr h.valid h.first, scan-flat h.expr h.valid)

    -- what words encode is what is read from them
    pub encodes_read : (ws : List ℕ) (h : Encodes K d ws) → h.expr ≡ expr_at K.rank ws 0
    encodes_read ws h = sym (read-flat K d R h.expr h.valid) ∙ ap (λ (l : List ℕ). expr_at K.rank l 0) h.words

-- more ends are owed than words are left
module _ (K : Vocabulary) (d : ℕ) where
  pub owe_low : (x : Item) (n : ℕ) → n ≤ owe K x n + 1
  unfolding owe
  owe_low (start_item m) n = omega arith
  owe_low (end_item m) n = omega arith
  owe_low (char_item c) n = omega arith
  owe_low (call_item q l) n = omega arith
  owe_low close_item zero = omega arith
  owe_low close_item (suc n) = omega arith
  owe_low no_item n = omega arith

  pub scan_short : (ws : List ℕ) (n : ℕ) → length ws < n → scan K d ws n ≡ false
  unfolding scan
  scan_short [] n h = ne_eqb n 0 (λ z. omega arith)
  scan_short (w ∷ ws) n h = rw (scan_short ws (owe K (item_of w) n) (omega (arith, owe_low (item_of w) n))) (and-false _)

  -- so a scan needs no number above the words that are left
  scan_capped : (ws : List ℕ) (n m : ℕ) → length ws < m → Dec (n ≤ m) → scan K d ws (min n m) ≡ scan K d ws n
  scan_capped ws n m h (yes l) = ap (scan K d ws) (min-eq_left l)
  scan_capped ws n m h (no l) = scan_short ws (min n m) (omega arith) ∙ sym (scan_short ws n (omega arith))

-- a number owed that is below its cap is what is owed
pub owed-owe : (K : Vocabulary) (x : Item) (n m r : ℕ) → r ≡ min (owe K x n) m → r < m → r ≡ owe K x n
owed-owe K x n m r h l = omega (arith, h)

-- a scan along words, with no number above m
module _ (K : Vocabulary) (d : ℕ) (words : List ℕ) (at n : ℕ) where
  scan-at : at < length words → scan K d (drop at words) n ≡ (fits K d (item_of (get_or words at 0)) n && scan K d (drop (at + 1) words) (owe K (item_of (get_or words at 0)) n))
  unfolding scan
  scan-at h = rw (drop_more words at 0 h)

  pub scan_stop : at < length words → fits K d (item_of (get_or words at 0)) n ≡ false → scan K d (drop at words) n ≡ false
  scan_stop h e = scan-at h ∙ rw e

  pub scan_more : (m : ℕ) → at < length words → length words ≤ m → fits K d (item_of (get_or words at 0)) n ≡ true → scan K d (drop (at + 1) words) (min (owe K (item_of (get_or words at 0)) n) m) ≡ scan K d (drop at words) n
  scan_more m h l e =
      let r = drop (at + 1) words in
      let b : length r < m = omega (arith, length-drop (at + 1) words) in
      scan_capped K d r (owe K (item_of (get_or words at 0)) n) m b (dec_le _ m) ∙ sym (scan-at h ∙ rw e)

  pub scan_done : length words ≤ at → scan K d (drop at words) n ≡ eqb n 0
  unfolding scan
  scan_done h = rw (drop_of_length-le words h)

-- the first word decides, by what it says
abbrev pub is_call : Item → Bool
is_call (start_item n) = false
is_call (end_item n) = false
is_call (char_item c) = false
is_call (call_item q l) = true
is_call close_item = false
is_call no_item = false

tag_no_call : (a b c : Bool) (n : ℕ) → is_call (cond a (start_item n) (cond b (end_item n) (cond c (char_item n) no_item))) ≡ false
tag_no_call true b c n = refl
tag_no_call false true c n = refl
tag_no_call false false true n = refl
tag_no_call false false false n = refl

module _ (w : ℕ) where
  call_by_kind : Dec (w ≡ close_word) → Dec (kind_of w ≡ call_kind) → eqb (kind_of w) call_kind ≡ is_call (item_of w)
  unfolding item_of
  call_by_kind (yes z) b = rw (of_close w z) (ne_eqb (kind_of w) call_kind (λ y. omega arith))
  call_by_kind (no a) (yes z) = rw (of_call w z) (eq-eqb (kind_of w) call_kind z)
  call_by_kind (no a) (no b) = simp (ne_eqb w close_word a, ne_eqb (kind_of w) call_kind b, tag_no_call)

  kind_of-is_call : eqb (kind_of w) call_kind ≡ is_call (item_of w)
  kind_of-is_call = call_by_kind (ℕ_discrete w close_word) (ℕ_discrete (kind_of w) call_kind)

pub begins_none : (ws : List ℕ) → length ws < 1 → begins ws ≡ true
unfolding begins
begins_none [] h = refl
begins_none (w ∷ ws) h = absurd (omega arith)

pub begins_first : (ws : List ℕ) → 1 ≤ length ws → begins ws ≡ is_call (item_of (get_or ws 0 0))
unfolding begins
begins_first [] h = absurd (omega arith)
begins_first (w ∷ ws) h = kind_of-is_call w

-- what the code of check.rt needs of these
pub ruleset scan_laws = (leaf-high, begins_none, begins_first, scan_stop, scan_more, scan_done)
