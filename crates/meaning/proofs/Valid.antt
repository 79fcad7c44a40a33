-- An event keeps a held expression one of its table: `valid-step`, `valid_run`. Assumes nothing.
use Prim.Native.Nat.{ℕ, zero, suc, pred, ◌≤◌, ◌<◌}
use mathlib.Core.Path.{◌≡◌, refl, subst}
use mathlib.Core.List.{List, [], ◌∷◌}
use mathlib.Core.Option.{Option, none, some}
use native.Mathlib.Omega.{arith}
use lib.Dec.{T}
use Rattle.meaning.specs.Event.{Event, start, char, end, finish, allowed, opened, Accepted, opened_by}
use Rattle.meaning.specs.Held.{Expr, ε, opening, closing, chr, wait, Args, ∅, also, match_of, name_of, char_of, level_of, waits, target, join, argument, instance, instances, rewritten, step, steps, held, after, blanks, initial}
use Rattle.meaning.specs.Rules.{Source, children, siblings, Rhs, done, element, matched, letter, matched_letter, value, call, RArgs, no_arg, arg, Table}
use Rattle.meaning.specs.Valid.{Vocabulary, Count, RCount, Valid, ValidAll, has_element, has_character, RhsValid, RArgsValid, Known, Proper}

module _ (K : Vocabulary) where
  valid-join : (d : ℕ) (e k : Expr) → Valid K d e → Valid K d k → Valid K d (join e k)
  unfolding join
  valid-join d ε k h g = g
  valid-join d (opening n e) k h g = (h.0, valid-join d e k h.1 g)
  valid-join d (closing n e) k h g = (h.0, valid-join d e k h.1 g)
  valid-join d (chr c e) k h g = (h.0, valid-join d e k h.1 g)
  valid-join d (wait q i es e) k h g = (h.0, h.1, h.2, h.3, valid-join d e k h.4 g)

  valid-argument : (d : ℕ) (es : Args) (j : ℕ) → ValidAll K d es → Valid K d (argument es j)
  unfolding argument
  valid-argument d ∅ j h = tt
  valid-argument d (also e es) zero h = h.0
  valid-argument d (also e es) (suc j) h = valid-argument d es j h.1

  pub valid-held : (d : ℕ) (e : Expr) → Valid K d e → Valid K d (held e)
  unfolding held
  valid-held d ε h = tt
  valid-held d (opening n e) h = valid-held d e h.1
  valid-held d (closing n e) h = valid-held d e h.1
  valid-held d (chr c e) h = valid-held d e h.1
  valid-held d (wait q i es e) h = h

  -- what an event's own parts may be
  name-known : (v : Event) → Known K v → has_element (match_of v) → name_of v < K.names
  name-known (start n) k h = k
  name-known (char c) k h = absurd h
  name-known (end n) k h = absurd h
  name-known finish k h = absurd h

  char_known : (v : Event) → Known K v → has_character (match_of v) → T (K.is_leaf (char_of v))
  char_known (start n) k h = absurd h
  char_known (char c) k h = k
  char_known (end n) k h = absurd h
  char_known finish k h = absurd h

  -- a call of a right side waits for no more end tags than elements are then open
  valid-waits : (d : ℕ) (v : Event) (x : Source) (q : ℕ) (es : Args) (k : Expr) → q < K.states → Count es (K.rank q) → ValidAll K (opened d v) es → Valid K (opened d v) k → Valid K (opened d v) (waits (level_of v x) q es k)
  valid-waits d (start n) children q es k hq c h g = (hq, omega arith, c, h, g)
  valid-waits d (start n) siblings q es k hq c h g = (hq, omega arith, c, h, g)
  valid-waits d (char b) children q es k hq c h g = g
  valid-waits d (char b) siblings q es k hq c h g = (hq, omega arith, c, h, g)
  valid-waits d (end n) x q es k hq c h g = g
  valid-waits d finish x q es k hq c h g = g

  -- a call that is moved waits for no more end tags than elements are then open
  moved : (d : ℕ) (v : Event) (i j : ℕ) → allowed d v → i ≤ d → target v i ≡ some j → j ≤ opened d v
  moved d (start n) zero j a l e = let z : ◌≡◌ {A = ℕ} 0 1 = cc in omega arith
  moved d (start n) (suc i) j a l e = let z : suc (suc i) ≡ j = cc in omega arith
  moved d (char c) zero j a l e = let z : ◌≡◌ {A = ℕ} 0 1 = cc in omega arith
  moved d (char c) (suc i) j a l e = let z : suc i ≡ j = cc in omega arith
  moved d (end n) zero j a l e = let z : ◌≡◌ {A = ℕ} 0 1 = cc in omega arith
  moved d (end n) (suc i) j a l e = let z : i ≡ j = cc in let m : j ≤ pred d = omega arith in m
  moved d finish i j a l e = let z : ◌≡◌ {A = ℕ} 0 1 = cc in omega arith

  module _ (d : ℕ) (v : Event) (kn : Known K v) where
    module _ (n : ℕ) (vs : Args) (hv : ValidAll K (opened d v) vs) where
      count-instances : (rs : RArgs) (m : ℕ) → RCount rs m → Count (instances v vs rs) m
      unfolding instance
      count-instances no_arg zero c = tt
      count-instances no_arg (suc m) c = absurd c
      count-instances (arg r rs) zero c = absurd c
      count-instances (arg r rs) (suc m) c = count-instances rs m c

      mutual
        unfolding instance

        valid-instance : (r : Rhs) (k : Expr) → RhsValid K (match_of v) n r → Valid K (opened d v) k → Valid K (opened d v) (instance v vs r k)
        valid-instance done k h g = g
        valid-instance (element m b r) k h g = (h.0, valid-instance b (closing m (instance v vs r k)) h.1 (h.0, valid-instance r k h.2 g))
        valid-instance (matched b r) k h g =
            (name-known v kn h.0, valid-instance b (closing (name_of v) (instance v vs r k)) h.1 (name-known v kn h.0, valid-instance r k h.2 g))
        valid-instance (letter c r) k h g = (h.0, valid-instance r k h.1 g)
        valid-instance (matched_letter r) k h g = (char_known v kn h.0, valid-instance r k h.1 g)
        valid-instance (value j r) k h g = valid-join (opened d v) (argument vs j) (instance v vs r k) (valid-argument (opened d v) vs j hv) (valid-instance r k h.1 g)
        valid-instance (call x q rs r) k h g =
            valid-waits d v x q (instances v vs rs) (instance v vs r k) h.1 (count-instances rs (K.rank q) h.2) (valid-instances rs h.3) (valid-instance r k h.4 g)

        valid-instances : (rs : RArgs) → RArgsValid K (match_of v) n rs → ValidAll K (opened d v) (instances v vs rs)
        valid-instances no_arg h = tt
        valid-instances (arg r rs) h = (valid-instance r ε h.0 tt, valid-instances rs h.1)

    module _ (M : Table) (P : Proper K M) (al : allowed d v) where
      valid-rewritten : (q i : ℕ) (o : Option ℕ) → target v i ≡ o → (es : Args) (e : Expr) → q < K.states → i ≤ d → Count es (K.rank q) → ValidAll K (opened d v) es → Valid K (opened d v) e
          → Valid K (opened d v) (rewritten M v q o es e)
      valid-rewritten q i none t es e hq l c h g = valid-instance (K.rank q) es h (M.rule q (match_of v)) e (P.rules q (match_of v)) g
      valid-rewritten q i (some j) t es e hq l c h g = (hq, moved d v i j al l t, c, h, g)

      count-steps : (es : Args) (m : ℕ) → Count es m → Count (steps M v es) m
      unfolding step
      count-steps ∅ zero c = tt
      count-steps ∅ (suc m) c = absurd c
      count-steps (also e es) zero c = absurd c
      count-steps (also e es) (suc m) c = count-steps es m c

      mutual
        unfolding step

        pub valid-step : (e : Expr) → Valid K d e → Valid K (opened d v) (step M v e)
        valid-step ε h = tt
        valid-step (opening n e) h = (h.0, valid-step e h.1)
        valid-step (closing n e) h = (h.0, valid-step e h.1)
        valid-step (chr c e) h = (h.0, valid-step e h.1)
        valid-step (wait q i es e) h =
            valid-rewritten q i (target v i) refl (steps M v es) (step M v e) h.0 h.1 (count-steps es (K.rank q) h.2) (valid-steps es h.3) (valid-step e h.4)

        valid-steps : (es : Args) → ValidAll K d es → ValidAll K (opened d v) (steps M v es)
        valid-steps ∅ h = tt
        valid-steps (also e es) h = (valid-step e h.0, valid-steps es h.1)

  blanks-count : (n : ℕ) → Count (blanks n) n
  unfolding blanks
  blanks-count zero = tt
  blanks-count (suc n) = blanks-count n

  blanks-valid : (d n : ℕ) → ValidAll K d (blanks n)
  unfolding blanks
  blanks-valid d zero = tt
  blanks-valid d (suc n) = (tt, blanks-valid d n)

  module _ (M : Table) (P : Proper K M) where
    pub valid-initial : 0 < K.states → Valid K 0 (initial M)
    unfolding initial
    valid-initial h = (h, omega arith, subst (λ (n : ℕ). Count (blanks (M.rank 0)) n) (P.ranks 0) (blanks-count (M.rank 0)), blanks-valid 0 (M.rank 0), tt)

    -- each event of the list is one of the vocabulary
    abbrev pub AllKnown : List Event → Type 0
    AllKnown [] = Unit {0}
    AllKnown (v ∷ vs) = Known K v × AllKnown vs

    pub valid_run : (d : ℕ) (vs : List Event) (e : Expr) → Accepted d vs → AllKnown vs → Valid K d e → Valid K (opened_by d vs) (after M vs e)
    unfolding after
    valid_run d [] e a k h = h
    valid_run d (v ∷ vs) e a k h = valid_run (opened d v) vs (held (step M v e)) a.1 k.1 (valid-held (opened d v) (step M v e) (valid-step d v k.0 M P a.0 e h))
