-- Each expression has one encoding: what its words say, its size, and reading it back. Assumes nothing.
use Rattle.std.proofs.Common.{ℕ, zero, suc, ◌+◌, ◌*◌, ◌≤◌, ◌<◌, ◌≡◌, List, [], ◌∷◌, ◌++◌, length, replicate, refl, sym, ap, ap₂, ◌∙◌, append_assoc, append-nil, arith, zero-add, add-zero, eq-eqb, ne_eqb, length-append}
use Rattle.std.proofs.Math.Decide.{ℕ_discrete}
use Rattle.std.proofs.Math.Path.{fun_ext}
use Rattle.meaning.specs.Held.{Expr, Args, ε, opening, closing, chr, wait, ∅, also, join, blanks, initial}
use Rattle.meaning.specs.Rules.{Table}
use Rattle.meaning.specs.Count.{size, sizes}
use Rattle.meaning.specs.Valid.{Vocabulary, Count, Valid, ValidAll}
use Rattle.held.specs.Words.{payloads, levels, start_kind, end_kind, char_kind, call_kind, start_word, end_word, char_word, call_word, close_word, Room, flat, flats, kind_of, payload_of, state_of, level_of, Item, start_item, end_item, char_item, call_item, close_item, no_item, item_of, word_of, args_from, read_item, expr_at}

-- the kind of a word decides what it says
module _ (w : ℕ) where
  pub of_close : w ≡ close_word → item_of w ≡ close_item
  unfolding item_of
  of_close h = simp (eq-eqb w close_word h)

  pub of_call : kind_of w ≡ call_kind → item_of w ≡ call_item (state_of w) (level_of w)
  unfolding item_of
  of_call h = simp (ne_eqb w close_word (λ z. omega arith), eq-eqb (kind_of w) call_kind h)

  pub of_start : kind_of w ≡ start_kind → item_of w ≡ start_item (payload_of w)
  unfolding item_of
  of_start h = simp (ne_eqb w close_word (λ z. omega arith), ne_eqb (kind_of w) call_kind (λ z. omega arith), eq-eqb (kind_of w) start_kind h)

  pub of_end : kind_of w ≡ end_kind → item_of w ≡ end_item (payload_of w)
  unfolding item_of
  of_end h =
      simp
      (ne_eqb w close_word (λ z. omega arith), ne_eqb (kind_of w) call_kind (λ z. omega arith), ne_eqb (kind_of w) start_kind (λ z. omega arith), eq-eqb (kind_of w) end_kind h)

  pub of_char : kind_of w ≡ char_kind → item_of w ≡ char_item (payload_of w)
  unfolding item_of
  of_char h =
      simp
      (ne_eqb w close_word (λ z. omega arith), ne_eqb (kind_of w) call_kind (λ z. omega arith), ne_eqb (kind_of w) start_kind (λ z. omega arith), ne_eqb (kind_of w) end_kind (λ z. omega arith), eq-eqb (kind_of w) char_kind h)

  pub of_none : (w ≡ close_word → ⊥) → (kind_of w ≡ call_kind → ⊥) → (kind_of w ≡ start_kind → ⊥) → (kind_of w ≡ end_kind → ⊥) → (kind_of w ≡ char_kind → ⊥) → item_of w ≡ no_item
  unfolding item_of
  of_none a b c d e = simp (ne_eqb w close_word a, ne_eqb (kind_of w) call_kind b, ne_eqb (kind_of w) start_kind c, ne_eqb (kind_of w) end_kind d, ne_eqb (kind_of w) char_kind e)

  by_kind : (item_of w ≡ no_item → ⊥) → Dec (w ≡ close_word) → Dec (kind_of w ≡ call_kind) → Dec (kind_of w ≡ start_kind) → Dec (kind_of w ≡ end_kind) → Dec (kind_of w ≡ char_kind) → word_of (item_of w) ≡ w
  unfolding start_word end_word char_word call_word
  by_kind h (yes z) b c d e = rw (of_close z) (sym z)
  by_kind h (no a) (yes z) c d e = rw (of_call z) (omega arith)
  by_kind h (no a) (no b) (yes z) d e = rw (of_start z) (omega arith)
  by_kind h (no a) (no b) (no c) (yes z) e = rw (of_end z) (omega arith)
  by_kind h (no a) (no b) (no c) (no d) (yes z) = rw (of_char z) (omega arith)
  by_kind h (no a) (no b) (no c) (no d) (no e) = absurd (h (of_none a b c d e))

  -- a word that says something is the word of what it says
  pub word_item : (item_of w ≡ no_item → ⊥) → word_of (item_of w) ≡ w
  word_item h = by_kind h (ℕ_discrete w close_word) (ℕ_discrete (kind_of w) call_kind) (ℕ_discrete (kind_of w) start_kind) (ℕ_discrete (kind_of w) end_kind) (ℕ_discrete (kind_of w) char_kind)

-- what a word says, by its kind
pub ruleset kind_laws = (of_close, of_call, of_start, of_end, of_char, of_none)

-- the words taken apart again
module _ (n : ℕ) (h : n < payloads) where
  pub item_start : item_of (start_word n) ≡ start_item n
  unfolding start_word
  item_start = of_start (start_word n) (omega arith) ∙ ap start_item (omega arith)

  pub item_end : item_of (end_word n) ≡ end_item n
  unfolding end_word
  item_end = of_end (end_word n) (omega arith) ∙ ap end_item (omega arith)

  pub item_char : item_of (char_word n) ≡ char_item n
  unfolding char_word
  item_char = of_char (char_word n) (omega arith) ∙ ap char_item (omega arith)

module _ (q l : ℕ) (h : suc q * levels ≤ payloads) (k : l < levels) where
  pub kind_call : kind_of (call_word q l) ≡ call_kind
  unfolding call_word
  kind_call = omega arith

  pub state-call : state_of (call_word q l) ≡ q
  unfolding call_word
  state-call = omega arith

  pub level_call : level_of (call_word q l) ≡ l
  unfolding call_word
  level_call = omega arith

  -- one level up is one word up
  pub call_next : call_word q (suc l) ≡ suc (call_word q l)
  unfolding call_word
  call_next = omega arith

  pub item_call : item_of (call_word q l) ≡ call_item q l
  item_call = of_call (call_word q l) kind_call ∙ ap₂ call_item state-call level_call

pub item_close : item_of close_word ≡ close_item
item_close = of_close close_word refl

-- "One word per unit of size"
mutual
  unfolding flat size

  pub length-flat : (e : Expr) → length (flat e) ≡ size e
  length-flat ε = refl
  length-flat (opening n e) = omega (arith, length-flat e)
  length-flat (closing n e) = omega (arith, length-flat e)
  length-flat (chr c e) = omega (arith, length-flat e)
  length-flat (wait q i es e) = omega (arith, length-append (flats es) (flat e), length-flats es, length-flat e)

  pub length-flats : (es : Args) → length (flats es) ≡ sizes es
  length-flats ∅ = refl
  length-flats (also e es) = omega (arith, length-append (flat e) (close_word ∷ flats es), length-flat e, length-flats es)

-- one expression behind another, and the first expression of all
pub flat-join : (e k : Expr) → flat (join e k) ≡ flat e ++ flat k
unfolding flat join
flat-join ε k = refl
flat-join (opening n e) k = ap (start_word n ∷◌) (flat-join e k)
flat-join (closing n e) k = ap (end_word n ∷◌) (flat-join e k)
flat-join (chr c e) k = ap (char_word c ∷◌) (flat-join e k)
flat-join (wait q i es e) k = ap (λ (l : List ℕ). call_word q (suc i) ∷ (flats es ++ l)) (flat-join e k) ∙ ap (call_word q (suc i) ∷◌) (sym (append_assoc (flats es) (flat e) (flat k)))

flats-blanks : (n : ℕ) → flats (blanks n) ≡ replicate n close_word
unfolding flat blanks
flats-blanks zero = refl
flats-blanks (suc n) = ap (close_word ∷◌) (flats-blanks n)

pub flat-initial : (M : Table) → flat (initial M) ≡ call_word 0 1 ∷ replicate (M.rank 0) close_word
unfolding flat initial
flat-initial M = ap (call_word 0 1 ∷◌) (append-nil (flats (blanks (M.rank 0))) ∙ flats-blanks (M.rank 0))

-- a word in front of words, by what it says
pub expr_item : (rank : ℕ → ℕ) (w : ℕ) (x : Item) (ws : List ℕ) (i : ℕ) → item_of w ≡ x → expr_at rank (w ∷ ws) i ≡ read_item rank x (expr_at rank ws) i
unfolding expr_at
expr_item rank w x ws i h = ap (λ (y : Item). read_item rank y (expr_at rank ws) i) h

-- the words of an expression of a vocabulary, read
module _ (K : Vocabulary) (d : ℕ) (R : Room K d) where
  pub state_room : (q : ℕ) → q < K.states → suc q * levels ≤ payloads
  state_room q h = omega (arith, R.states)

  pub level_room : (i : ℕ) → i ≤ d → suc i < levels
  level_room i h = omega (arith, R.deep)

  mutual
    unfolding flat read_item

    -- what stands behind an expression is read as if nothing stood before it
    expr-behind : (e : Expr) (ws : List ℕ) (i : ℕ) → Valid K d e → expr_at K.rank (flat e ++ ws) (suc i) ≡ expr_at K.rank ws (suc i)
    expr-behind ε ws i v = refl
    expr-behind (opening n e) ws i v = expr_item K.rank (start_word n) (start_item n) (flat e ++ ws) (suc i) (item_start n (omega (arith, R.names))) ∙ expr-behind e ws i v.1
    expr-behind (closing n e) ws i v = expr_item K.rank (end_word n) (end_item n) (flat e ++ ws) (suc i) (item_end n (omega (arith, R.names))) ∙ expr-behind e ws i v.1
    expr-behind (chr c e) ws i v = expr_item K.rank (char_word c) (char_item c) (flat e ++ ws) (suc i) (item_char c (R.leaves c v.0)) ∙ expr-behind e ws i v.1
    expr-behind (wait q l es e) ws i v =
        expr_item K.rank (call_word q (suc l)) (call_item q (suc l)) ((flats es ++ flat e) ++ ws) (suc i) (item_call q (suc l) (state_room q v.0) (level_room l v.1))
        ∙ rw append_assoc (exprs_behind es (K.rank q) (flat e ++ ws) (suc i) v.2 v.3)
        ∙ expr-behind e ws i v.4

    exprs_behind : (es : Args) (n : ℕ) (ws : List ℕ) (i : ℕ) → Count es n → ValidAll K d es → expr_at K.rank (flats es ++ ws) (n + i) ≡ expr_at K.rank ws i
    exprs_behind ∅ zero ws i c v = ap (expr_at K.rank ws) (zero-add i)
    exprs_behind ∅ (suc n) ws i c v = absurd c
    exprs_behind (also e es) zero ws i c v = absurd c
    exprs_behind (also e es) (suc n) ws i c v =
        ap₂ (expr_at K.rank) (append_assoc (flat e) (close_word ∷ flats es) ws) (omega arith)
        ∙ expr-behind e (close_word ∷ (flats es ++ ws)) (n + i) v.0
        ∙ expr_item K.rank close_word close_item (flats es ++ ws) (suc (n + i)) item_close
        ∙ exprs_behind es n ws i c v.1

  -- what is read of the words of arguments, from the first on
  args_behind : (e : Expr) (es : Args) (ws : List ℕ) → Valid K d e → ◌≡◌ {A = ℕ → Expr} (λ i. expr_at K.rank (flats (also e es) ++ ws) (suc i)) (expr_at K.rank (flats es ++ ws))
  unfolding flat read_item
  args_behind e es ws v =
      fun_ext (λ i. ap (λ (l : List ℕ). expr_at K.rank l (suc i)) (append_assoc (flat e) (close_word ∷ flats es) ws) ∙ expr-behind e (close_word ∷ (flats es ++ ws)) i v ∙ expr_item K.rank close_word close_item (flats es ++ ws) (suc i) item_close)

  mutual
    unfolding flat read_item args_from

    expr-flat : (e : Expr) (ws : List ℕ) → Valid K d e → expr_at K.rank ws 0 ≡ ε → expr_at K.rank (flat e ++ ws) 0 ≡ e
    expr-flat ε ws v z = z
    expr-flat (opening n e) ws v z = expr_item K.rank (start_word n) (start_item n) (flat e ++ ws) 0 (item_start n (omega (arith, R.names))) ∙ ap (opening n) (expr-flat e ws v.1 z)
    expr-flat (closing n e) ws v z = expr_item K.rank (end_word n) (end_item n) (flat e ++ ws) 0 (item_end n (omega (arith, R.names))) ∙ ap (closing n) (expr-flat e ws v.1 z)
    expr-flat (chr c e) ws v z = expr_item K.rank (char_word c) (char_item c) (flat e ++ ws) 0 (item_char c (R.leaves c v.0)) ∙ ap (chr c) (expr-flat e ws v.1 z)
    expr-flat (wait q l es e) ws v z =
        expr_item K.rank (call_word q (suc l)) (call_item q (suc l)) ((flats es ++ flat e) ++ ws) 0 (item_call q (suc l) (state_room q v.0) (level_room l v.1))
        ∙ rw append_assoc
        (ap₂ (wait q l) (args_flats es (K.rank q) (flat e ++ ws) v.2 v.3)
        (ap (expr_at K.rank (flats es ++ (flat e ++ ws))) (sym (add-zero (K.rank q))) ∙ exprs_behind es (K.rank q) (flat e ++ ws) 0 v.2 v.3 ∙ expr-flat e ws v.4 z))

    args_flats : (es : Args) (n : ℕ) (ws : List ℕ) → Count es n → ValidAll K d es → args_from n (expr_at K.rank (flats es ++ ws)) ≡ es
    args_flats ∅ zero ws c v = refl
    args_flats ∅ (suc n) ws c v = absurd c
    args_flats (also e es) zero ws c v = absurd c
    args_flats (also e es) (suc n) ws c v =
        ap₂ also (ap (λ (l : List ℕ). expr_at K.rank l 0) (append_assoc (flat e) (close_word ∷ flats es) ws) ∙ expr-flat e (close_word ∷ (flats es ++ ws)) v.0 (expr_item K.rank close_word close_item (flats es ++ ws) 0 item_close))
        (ap (args_from n) (args_behind e es ws v.0) ∙ args_flats es n ws c v.1)

  -- an expression's words are read as the expression
  pub read-flat : (e : Expr) → Valid K d e → expr_at K.rank (flat e) 0 ≡ e
  unfolding expr_at
  read-flat e v = ap (λ (l : List ℕ). expr_at K.rank l 0) (sym (append-nil (flat e))) ∙ expr-flat e [] v refl

  -- so no two expressions have the same words
  pub flat_injective : (e f : Expr) → Valid K d e → Valid K d f → flat e ≡ flat f → e ≡ f
  flat_injective e f v w p = sym (read-flat e v) ∙ ap (λ (l : List ℕ). expr_at K.rank l 0) p ∙ read-flat f w
