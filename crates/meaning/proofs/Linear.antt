-- How an event changes the weight of a held expression, for demand 3's tables: `size_run`, `single_run`, `steps_bound`. Assumes nothing.
use Prim.Native.Nat.{ℕ, zero, suc, pred, ◌+◌, ◌*◌, ◌≤◌, ◌<◌}
use mathlib.Core.Path.{◌≡◌, refl, sym, ap}
use mathlib.Core.List.{List, [], ◌∷◌}
use mathlib.Core.Option.{Option, none, some}
use native.Mathlib.Omega.{arith}
use native.Mathlib.Nat.{mul-add, add-mul, mul-zero, zero-mul, mul-one}
use lib.ListN.{get_or, length}
use Rattle.meaning.specs.Count.{size, sizes, rhs_size, rhs_sizes, rule_steps, rules_steps, total, call_steps, cost, costs}
use Rattle.meaning.specs.Event.{Event, start, char, end, finish, allowed, opened, Accepted, opened_by}
use Rattle.meaning.specs.Held.{Expr, ε, opening, closing, chr, wait, Args, ∅, also, match_of, name_of, level_of, waits, target, join, argument, instance, instances, rewritten, step, steps, held, after, blanks, initial}
use Rattle.meaning.specs.Linear.{delta, same, weigh, weighs, waiting, reads, reads_all, calls, uses, Linear, Small}
use Rattle.meaning.specs.Rules.{Source, children, siblings, Rhs, done, element, matched, letter, matched_letter, value, call, RArgs, no_arg, arg, Table}

module _ (t t' a a' : ℕ) (w w' : ℕ → ℕ) (ht : t ≤ t') (hw : (i : ℕ) → w i ≤ w' i) (ha : a ≤ a') where
  mutual
    unfolding weigh

    weigh_mono : (e : Expr) → weigh t w a e ≤ weigh t' w' a' e
    weigh_mono ε = omega arith
    weigh_mono (opening n e) = omega (arith, weigh_mono e)
    weigh_mono (closing n e) = omega (arith, weigh_mono e)
    weigh_mono (chr c e) = omega (arith, weigh_mono e)
    weigh_mono (wait q i es e) = omega (arith, weigh_mono e, weighs_mono es, hw i)

    weighs_mono : (es : Args) → weighs t w a es ≤ weighs t' w' a' es
    weighs_mono ∅ = omega arith
    weighs_mono (also e es) = omega (arith, weigh_mono e, weighs_mono es)

module _ (t t' a a' : ℕ) (w w' : ℕ → ℕ) where
  mutual
    unfolding weigh

    weigh_add : (e : Expr) → weigh (t + t') (λ i. w i + w' i) (a + a') e ≡ weigh t w a e + weigh t' w' a' e
    weigh_add ε = refl
    weigh_add (opening n e) = omega (arith, weigh_add e)
    weigh_add (closing n e) = omega (arith, weigh_add e)
    weigh_add (chr c e) = omega (arith, weigh_add e)
    weigh_add (wait q i es e) = omega (arith, weigh_add e, weighs_add es)

    weighs_add : (es : Args) → weighs (t + t') (λ i. w i + w' i) (a + a') es ≡ weighs t w a es + weighs t' w' a' es
    weighs_add ∅ = refl
    weighs_add (also e es) = omega (arith, weigh_add e, weighs_add es)

mutual
  unfolding weigh size

  size-weigh : (e : Expr) → size e ≡ weigh 1 (λ i. 1) 1 e
  size-weigh ε = refl
  size-weigh (opening n e) = ap (1 +◌) (size-weigh e)
  size-weigh (closing n e) = ap (1 +◌) (size-weigh e)
  size-weigh (chr c e) = ap (1 +◌) (size-weigh e)
  size-weigh (wait q i es e) = omega (arith, size-weigh e, sizes-weighs es)

  sizes-weighs : (es : Args) → sizes es ≡ weighs 1 (λ i. 1) 1 es
  sizes-weighs ∅ = refl
  sizes-weighs (also e es) = omega (arith, size-weigh e, sizes-weighs es)

-- a right side whose values are used at most once reads at most all of them
dot : (ℕ → ℕ) → List ℕ → ℕ
dot f [] = 0
dot f (w ∷ ws) = f 0 * w + dot (λ j. f (suc j)) ws

dot_zero : (ws : List ℕ) → dot (λ j. 0) ws ≡ 0
unfolding dot
dot_zero [] = refl
dot_zero (w ∷ ws) = omega (arith, dot_zero ws)

dot_add : (f g : ℕ → ℕ) (ws : List ℕ) → dot (λ j. f j + g j) ws ≡ dot f ws + dot g ws
unfolding dot
dot_add f g [] = refl
dot_add f g (w ∷ ws) = omega (arith, dot_add (λ j. f (suc j)) (λ j. g (suc j)) ws, add-mul (f 0) (g 0) w)

dot_delta : (j : ℕ) (ws : List ℕ) → dot (λ i. delta i j) ws ≡ get_or ws j 0
unfolding dot
dot_delta j [] = refl
dot_delta zero (w ∷ ws) = omega (arith, dot_zero ws)
dot_delta (suc j) (w ∷ ws) = omega (arith, dot_delta j ws)

once_le : (n w : ℕ) → n ≤ 1 → n * w ≤ w
once_le zero w h = omega (arith, zero-mul w)
once_le (suc zero) w h = omega arith
once_le (suc (suc n)) w h = absurd (omega arith)

dot_le : (f : ℕ → ℕ) (ws : List ℕ) → ((j : ℕ) → f j ≤ 1) → dot f ws ≤ total ws
unfolding dot total
dot_le f [] h = omega arith
dot_le f (w ∷ ws) h = omega (arith, dot_le (λ j. f (suc j)) ws (λ j. h (suc j)), once_le (f 0) w (h 0))

module _ (ws : List ℕ) where
  mutual
    unfolding reads

    reads_dot : (r : Rhs) → reads (λ x. 0) (λ j. get_or ws j 0) r ≡ dot (λ j. uses j r) ws
    reads_dot done = sym (dot_zero ws)
    reads_dot (element m b r) = omega (arith, reads_dot b, reads_dot r, dot_add (λ j. uses j b) (λ j. uses j r) ws)
    reads_dot (matched b r) = omega (arith, reads_dot b, reads_dot r, dot_add (λ j. uses j b) (λ j. uses j r) ws)
    reads_dot (letter d r) = reads_dot r
    reads_dot (matched_letter r) = reads_dot r
    reads_dot (value j r) = omega (arith, reads_dot r, dot_add (λ i. delta i j) (λ i. uses i r) ws, dot_delta j ws)
    reads_dot (call x q rs r) =
        let f : ℕ → ℕ = λ j. reads_all (λ x. 0) (delta j) rs in
        omega (arith, reads_dot r, readss_dot rs, dot_add (λ j. 0 + f j) (λ j. uses j r) ws, dot_add (λ j. 0) f ws, dot_zero ws)

    readss_dot : (rs : RArgs) → reads_all (λ x. 0) (λ j. get_or ws j 0) rs ≡ dot (λ j. reads_all (λ x. 0) (delta j) rs) ws
    readss_dot no_arg = sym (dot_zero ws)
    readss_dot (arg r rs) = omega (arith, reads_dot r, readss_dot rs, dot_add (λ j. uses j r) (λ j. reads_all (λ x. 0) (delta j) rs) ws)

reads-most : (ws : List ℕ) (r : Rhs) → ((j : ℕ) → uses j r ≤ 1) → reads (λ x. 0) (λ j. get_or ws j 0) r ≤ total ws
reads-most ws r h = omega (arith, reads_dot ws r, dot_le (λ j. uses j r) ws h)

-- the calls of a right side that has at most one on each source
module _ (ρ : Source → ℕ) where
  mutual
    unfolding reads

    reads-calls : (r : Rhs) → reads ρ (λ j. 0) r ≡ ρ children * calls children r + ρ siblings * calls siblings r
    reads-calls done = simp mul-zero
    reads-calls (element m b r) = simp mul-add (omega (arith, reads-calls b, reads-calls r))
    reads-calls (matched b r) = simp mul-add (omega (arith, reads-calls b, reads-calls r))
    reads-calls (letter d r) = reads-calls r
    reads-calls (matched_letter r) = reads-calls r
    reads-calls (value j r) = omega (arith, reads-calls r)
    reads-calls (call children q rs r) = simp (mul-add, mul-one, mul-zero) (omega (arith, readss_calls rs, reads-calls r))
    reads-calls (call siblings q rs r) = simp (mul-add, mul-one, mul-zero) (omega (arith, readss_calls rs, reads-calls r))

    readss_calls : (rs : RArgs) → reads_all ρ (λ j. 0) rs ≡ ρ children * reads_all (same children) (λ j. 0) rs + ρ siblings * reads_all (same siblings) (λ j. 0) rs
    readss_calls no_arg = simp mul-zero
    readss_calls (arg r rs) = simp mul-add (omega (arith, reads-calls r, readss_calls rs))

le_once : (n w : ℕ) → n ≤ 1 → w * n ≤ w
le_once zero w h = simp mul-zero (omega arith)
le_once (suc zero) w h = omega arith
le_once (suc (suc n)) w h = absurd (omega arith)

calls-most : (ρ : Source → ℕ) (r : Rhs) → ((x : Source) → calls x r ≤ 1) → reads ρ (λ j. 0) r ≤ ρ children + ρ siblings
calls-most ρ r h = omega (arith, reads-calls ρ r, le_once (calls children r) (ρ children) (h children), le_once (calls siblings r) (ρ siblings) (h siblings))

-- what the instance of a right side weighs
abbrev lifted : (ℕ → ℕ) → Option ℕ → ℕ
lifted w none = 0
lifted w (some i) = w i

-- the weight of a right side's own items: c a tag or character, ρ x a call on x, a an argument, ν j the value j
module _ (t : ℕ) (ρ : Source → ℕ) (a : ℕ) where
  mutual
    own : Rhs → ℕ
    own done = 0
    own (element m b r) = t + own b + (t + own r)
    own (matched b r) = t + own b + (t + own r)
    own (letter d r) = t + own r
    own (matched_letter r) = t + own r
    own (value j r) = own r
    own (call x q rs r) = ρ x + owns rs + own r

    owns : RArgs → ℕ
    owns no_arg = 0
    owns (arg r rs) = a + own r + owns rs

mutual
  unfolding own rhs_size

  own_size : (ρ : Source → ℕ) → ((x : Source) → ρ x ≤ 1) → (r : Rhs) → own 1 ρ 1 r ≤ rhs_size r
  own_size ρ h done = omega arith
  own_size ρ h (element m b r) = omega (arith, own_size ρ h b, own_size ρ h r)
  own_size ρ h (matched b r) = omega (arith, own_size ρ h b, own_size ρ h r)
  own_size ρ h (letter d r) = omega (arith, own_size ρ h r)
  own_size ρ h (matched_letter r) = omega (arith, own_size ρ h r)
  own_size ρ h (value j r) = own_size ρ h r
  own_size ρ h (call x q rs r) = omega (arith, own_size ρ h r, owns_size ρ h rs, h x)

  owns_size : (ρ : Source → ℕ) → ((x : Source) → ρ x ≤ 1) → (rs : RArgs) → owns 1 ρ 1 rs ≤ rhs_sizes rs
  owns_size ρ h no_arg = omega arith
  owns_size ρ h (arg r rs) = omega (arith, own_size ρ h r, owns_size ρ h rs)

mutual
  unfolding own reads

  own_calls : (ρ : Source → ℕ) (r : Rhs) → own 0 ρ 0 r ≡ reads ρ (λ j. 0) r
  own_calls ρ done = refl
  own_calls ρ (element m b r) = omega (arith, own_calls ρ b, own_calls ρ r)
  own_calls ρ (matched b r) = omega (arith, own_calls ρ b, own_calls ρ r)
  own_calls ρ (letter d r) = omega (arith, own_calls ρ r)
  own_calls ρ (matched_letter r) = omega (arith, own_calls ρ r)
  own_calls ρ (value j r) = omega (arith, own_calls ρ r)
  own_calls ρ (call x q rs r) = omega (arith, own_calls ρ r, owns_calls ρ rs)

  owns_calls : (ρ : Source → ℕ) (rs : RArgs) → owns 0 ρ 0 rs ≡ reads_all ρ (λ j. 0) rs
  owns_calls ρ no_arg = refl
  owns_calls ρ (arg r rs) = omega (arith, own_calls ρ r, owns_calls ρ rs)

module _ (t : ℕ) (w : ℕ → ℕ) (a : ℕ) where
  -- the weights of the arguments, one by one
  each : Args → List ℕ
  each ∅ = []
  each (also e es) = weigh t w a e ∷ each es

  weigh-join : (e k : Expr) → weigh t w a (join e k) ≡ weigh t w a e + weigh t w a k
  unfolding weigh join
  weigh-join ε k = omega arith
  weigh-join (opening n e) k = omega (arith, weigh-join e k)
  weigh-join (closing n e) k = omega (arith, weigh-join e k)
  weigh-join (chr c e) k = omega (arith, weigh-join e k)
  weigh-join (wait q i es e) k = omega (arith, weigh-join e k)

  weigh-argument : (es : Args) (j : ℕ) → weigh t w a (argument es j) ≡ get_or (each es) j 0
  unfolding weigh argument each
  weigh-argument ∅ j = refl
  weigh-argument (also e es) zero = refl
  weigh-argument (also e es) (suc j) = weigh-argument es j

  weigh-waits : (o : Option ℕ) (q : ℕ) (es : Args) (k : Expr) → weigh t w a (waits o q es k) ≤ lifted w o + weighs t w a es + weigh t w a k
  unfolding weigh
  weigh-waits none q es k = omega arith
  weigh-waits (some i) q es k = omega arith

  module _ (v : Event) (vs : Args) where
    abbrev ρ : Source → ℕ
    ρ x = lifted w (level_of v x)

    abbrev ν : ℕ → ℕ
    ν j = get_or (each vs) j 0

    mutual
      unfolding weigh instance own reads

      weigh-instance : (r : Rhs) (k : Expr) → weigh t w a (instance v vs r k) ≤ own t ρ a r + reads (λ x. 0) ν r + weigh t w a k
      weigh-instance done k = omega arith
      weigh-instance (element m b r) k = omega (arith, weigh-instance b (closing m (instance v vs r k)), weigh-instance r k)
      weigh-instance (matched b r) k = omega (arith, weigh-instance b (closing (name_of v) (instance v vs r k)), weigh-instance r k)
      weigh-instance (letter d r) k = omega (arith, weigh-instance r k)
      weigh-instance (matched_letter r) k = omega (arith, weigh-instance r k)
      weigh-instance (value j r) k = omega (arith, weigh-join (argument vs j) (instance v vs r k), weigh-argument vs j, weigh-instance r k)
      weigh-instance (call x q rs r) k =
          omega (arith, weigh-waits (level_of v x) q (instances v vs rs) (instance v vs r k), weigh-instances rs, weigh-instance r k)

      weigh-instances : (rs : RArgs) → weighs t w a (instances v vs rs) ≤ owns t ρ a rs + reads_all (λ x. 0) ν rs
      weigh-instances no_arg = omega arith
      weigh-instances (arg r rs) = omega (arith, weigh-instance r ε, weigh-instances rs)

  total_each : (es : Args) → total (each es) ≤ weighs t w a es
  unfolding total each weigh
  total_each ∅ = omega arith
  total_each (also e es) = omega (arith, total_each es)

  weigh-held : (e : Expr) → weigh t w a (held e) ≤ weigh t w a e
  unfolding weigh held
  weigh-held ε = omega arith
  weigh-held (opening n e) = omega (arith, weigh-held e)
  weigh-held (closing n e) = omega (arith, weigh-held e)
  weigh-held (chr c e) = omega (arith, weigh-held e)
  weigh-held (wait q i es e) = omega arith

-- what an event makes of a weight: b a call that it rewrites
abbrev turn : ℕ → (ℕ → ℕ) → Option ℕ → ℕ
turn b w none = b
turn b w (some i) = w i

module _ (M : Table) (R : ℕ) (L : Linear M) (S : Small M R) (v : Event) where
  module _ (t : ℕ) (w : ℕ → ℕ) (a b : ℕ) (hb : (q : ℕ) → own t (λ x. lifted w (level_of v x)) a (M.rule q (match_of v)) ≤ b) where
    weigh-rewritten : (q : ℕ) (o : Option ℕ) (es : Args) (e : Expr) → weigh t w a (rewritten M v q o es e) ≤ turn b w o + weighs t w a es + weigh t w a e
    unfolding weigh
    weigh-rewritten q none es e =
        let r = M.rule q (match_of v) in
        omega (arith, weigh-instance t w a v es r e, hb q, reads-most (each t w a es) r (L.used q (match_of v)), total_each t w a es)
    weigh-rewritten q (some i) es e = omega arith

    mutual
      unfolding weigh step

      weigh-step : (e : Expr) → weigh t w a (step M v e) ≤ weigh t (λ i. turn b w (target v i)) a e
      weigh-step ε = omega arith
      weigh-step (opening n e) = omega (arith, weigh-step e)
      weigh-step (closing n e) = omega (arith, weigh-step e)
      weigh-step (chr c e) = omega (arith, weigh-step e)
      weigh-step (wait q i es e) = omega (arith, weigh-step e, weighs-step es, weigh-rewritten q (target v i) (steps M v es) (step M v e))

      weighs-step : (es : Args) → weighs t w a (steps M v es) ≤ weighs t (λ i. turn b w (target v i)) a es
      weighs-step ∅ = omega arith
      weighs-step (also e es) = omega (arith, weigh-step e, weighs-step es)

delta-same : (i : ℕ) → delta i i ≡ 1
delta-same zero = refl
delta-same (suc i) = delta-same i

-- the values past the fourth
abbrev fifth : ℕ → ℕ
fifth zero = 0
fifth (suc zero) = 0
fifth (suc (suc zero)) = 0
fifth (suc (suc (suc zero))) = 0
fifth (suc (suc (suc (suc j)))) = 1

fifth_small : (j : ℕ) → (4 ≤ j → ⊥) → fifth j ≡ 0
fifth_small zero h = refl
fifth_small (suc zero) h = refl
fifth_small (suc (suc zero)) h = refl
fifth_small (suc (suc (suc zero))) h = refl
fifth_small (suc (suc (suc (suc j)))) h = absurd (h (omega arith))

mutual
  unfolding reads

  fifth_none : (r : Rhs) → ((j : ℕ) → 4 ≤ j → uses j r ≡ 0) → reads (λ x. 0) fifth r ≡ 0
  fifth_none done h = refl
  fifth_none (element m b r) h = omega (arith, fifth_none b (λ j l. omega (arith, h j l)), fifth_none r (λ j l. omega (arith, h j l)))
  fifth_none (matched b r) h = omega (arith, fifth_none b (λ j l. omega (arith, h j l)), fifth_none r (λ j l. omega (arith, h j l)))
  fifth_none (letter d r) h = fifth_none r h
  fifth_none (matched_letter r) h = fifth_none r h
  fifth_none (value i r) h = omega (arith, fifth_small i (λ l. omega (arith, h i l, delta-same i)), fifth_none r (λ j l. omega (arith, h j l)))
  fifth_none (call x q rs r) h = omega (arith, fifths_none rs (λ j l. omega (arith, h j l)), fifth_none r (λ j l. omega (arith, h j l)))

  fifths_none : (rs : RArgs) → ((j : ℕ) → 4 ≤ j → reads_all (λ x. 0) (delta j) rs ≡ 0) → reads_all (λ x. 0) fifth rs ≡ 0
  fifths_none no_arg h = refl
  fifths_none (arg r rs) h = omega (arith, fifth_none r (λ j l. omega (arith, h j l)), fifths_none rs (λ j l. omega (arith, h j l)))

-- the steps of a right side
ones : List ℕ
ones = 1 ∷ 1 ∷ 1 ∷ 1 ∷ []

ones_fifth : (j : ℕ) → 1 ≤ get_or ones j 0 + fifth j
unfolding ones
ones_fifth zero = omega arith
ones_fifth (suc zero) = omega arith
ones_fifth (suc (suc zero)) = omega arith
ones_fifth (suc (suc (suc zero))) = omega arith
ones_fifth (suc (suc (suc (suc j)))) = omega arith

module _ (cs : List ℕ) where
  abbrev values : Rhs → ℕ
  values r = reads (λ x. 0) (λ j. get_or cs j 0) r + reads (λ x. 0) (λ j. get_or ones j 0) r + reads (λ x. 0) fifth r

  abbrev valuess : RArgs → ℕ
  valuess r = reads_all (λ x. 0) (λ j. get_or cs j 0) r + reads_all (λ x. 0) (λ j. get_or ones j 0) r + reads_all (λ x. 0) fifth r

  mutual
    unfolding rule_steps rhs_size reads

    rule-steps : (r : Rhs) → rule_steps cs r ≤ rhs_size r + values r
    rule-steps done = omega arith
    rule-steps (element m b r) = omega (arith, rule-steps b, rule-steps r)
    rule-steps (matched b r) = omega (arith, rule-steps b, rule-steps r)
    rule-steps (letter d r) = omega (arith, rule-steps r)
    rule-steps (matched_letter r) = omega (arith, rule-steps r)
    rule-steps (value j r) = omega (arith, rule-steps r, ones_fifth j)
    rule-steps (call x q rs r) = omega (arith, rules-steps rs, rule-steps r)

    rules-steps : (rs : RArgs) → rules_steps cs rs ≤ rhs_sizes rs + valuess rs
    rules-steps no_arg = omega arith
    rules-steps (arg r rs) = omega (arith, rule-steps r, rules-steps rs)

module _ (M : Table) (R : ℕ) (L : Linear M) (S : Small M R) (v : Event) where
  call-steps : (q : ℕ) (o : Option ℕ) (cs : List ℕ) → 1 + call_steps M v q o cs ≤ turn (1 + (R + 4)) (λ i. 1) o + total cs
  unfolding call_steps total ones
  call-steps q none cs =
      let r = M.rule q (match_of v) in
      omega (arith, rule-steps cs r, S.most q (match_of v), reads-most cs r (L.used q (match_of v)), reads-most ones r (L.used q (match_of v)), fifth_none r (S.four q (match_of v)))
  call-steps q (some i) cs = omega arith

  mutual
    unfolding weigh cost total

    cost-weigh : (e : Expr) → cost M v e ≤ weigh 1 (λ i. turn (1 + (R + 4)) (λ i. 1) (target v i)) 1 e
    cost-weigh ε = omega arith
    cost-weigh (opening n e) = omega (arith, cost-weigh e)
    cost-weigh (closing n e) = omega (arith, cost-weigh e)
    cost-weigh (chr c e) = omega (arith, cost-weigh e)
    cost-weigh (wait q i es e) = omega (arith, call-steps q (target v i) (costs M v es), costs-weigh es, cost-weigh e)

    costs-weigh : (es : Args) → total (costs M v es) ≤ weighs 1 (λ i. turn (1 + (R + 4)) (λ i. 1) (target v i)) 1 es
    costs-weigh ∅ = omega arith
    costs-weigh (also e es) = omega (arith, cost-weigh e, costs-weigh es)

-- the calls that an event rewrites
abbrev hit : Option ℕ → ℕ
hit none = 1
hit (some i) = 0

mutual
  unfolding weigh

  weigh_scale : (b : ℕ) (w : ℕ → ℕ) (e : Expr) → weigh 0 (λ i. b * w i) 0 e ≡ b * weigh 0 w 0 e
  weigh_scale b w ε = simp mul-zero
  weigh_scale b w (opening n e) = simp mul-add (omega (arith, weigh_scale b w e, mul-zero b))
  weigh_scale b w (closing n e) = simp mul-add (omega (arith, weigh_scale b w e, mul-zero b))
  weigh_scale b w (chr c e) = simp mul-add (omega (arith, weigh_scale b w e, mul-zero b))
  weigh_scale b w (wait q i es e) = simp mul-add (omega (arith, weigh_scale b w e, weighs_scale b w es))

  weighs_scale : (b : ℕ) (w : ℕ → ℕ) (es : Args) → weighs 0 (λ i. b * w i) 0 es ≡ b * weighs 0 w 0 es
  weighs_scale b w ∅ = simp mul-zero
  weighs_scale b w (also e es) = simp mul-add (omega (arith, weigh_scale b w e, weighs_scale b w es, mul-zero b))

-- with no call above level 0, all calls are those at level 0
mutual
  unfolding weigh

  lowest : (e : Expr) → ((i : ℕ) → waiting (suc i) e ≡ 0) → weigh 0 (λ i. 1) 0 e ≤ waiting 0 e
  lowest ε h = omega arith
  lowest (opening n e) h = omega (arith, lowest e (λ i. omega (arith, h i)))
  lowest (closing n e) h = omega (arith, lowest e (λ i. omega (arith, h i)))
  lowest (chr c e) h = omega (arith, lowest e (λ i. omega (arith, h i)))
  lowest (wait q zero es e) h = omega (arith, lowest e (λ i. omega (arith, h i)), lowests es (λ i. omega (arith, h i)))
  lowest (wait q (suc l) es e) h = absurd (omega (arith, h l, delta-same l))

  lowests : (es : Args) → ((i : ℕ) → weighs 0 (delta (suc i)) 0 es ≡ 0) → weighs 0 (λ i. 1) 0 es ≤ weighs 0 (delta 0) 0 es
  lowests ∅ h = omega arith
  lowests (also e es) h = omega (arith, lowest e (λ i. omega (arith, h i)), lowests es (λ i. omega (arith, h i)))

-- with d elements open: at most one call waits for each level, and none above d
pub record Single (d : ℕ) (e : Expr) : Type 0 where
  pub one : (i : ℕ) → waiting i e ≤ 1
  pub none_above : (i : ℕ) → d < i → waiting i e ≡ 0

hit_start : (i n : ℕ) → hit (target (start n) i) ≤ delta 0 i
hit_start zero n = omega arith
hit_start (suc i) n = omega arith

hit_text : (i n : ℕ) → hit (target (char n) i) ≤ delta 0 i
hit_text zero n = omega arith
hit_text (suc i) n = omega arith

hit_stop : (i n : ℕ) → hit (target (end n) i) ≤ delta 0 i
hit_stop zero n = omega arith
hit_stop (suc i) n = omega arith

one_hit : (d : ℕ) (v : Event) (e : Expr) → allowed d v → Single d e → weigh 0 (λ i. hit (target v i)) 0 e ≤ 1
one_hit d (start n) e h s = omega (arith, s.one 0, weigh_mono 0 0 0 0 (λ i. hit (target (start n) i)) (delta 0) (omega arith) (λ i. hit_start i n) (omega arith) e)
one_hit d (char n) e h s = omega (arith, s.one 0, weigh_mono 0 0 0 0 (λ i. hit (target (char n) i)) (delta 0) (omega arith) (λ i. hit_text i n) (omega arith) e)
one_hit d (end n) e h s = omega (arith, s.one 0, weigh_mono 0 0 0 0 (λ i. hit (target (end n) i)) (delta 0) (omega arith) (λ i. hit_stop i n) (omega arith) e)
one_hit d finish e h s = omega (arith, s.one 0, lowest e (λ i. s.none_above (suc i) (omega arith)))

turn_hit : (b : ℕ) (o : Option ℕ) → turn (1 + b) (λ i. 1) o ≤ 1 + b * hit o
turn_hit b none = simp mul-one (omega arith)
turn_hit b (some i) = simp mul-zero (omega arith)

-- a weighing that counts 1 + b for what an event rewrites
size_turn : (b d : ℕ) (v : Event) (e : Expr) → allowed d v → Single d e → weigh 1 (λ i. turn (1 + b) (λ i. 1) (target v i)) 1 e ≤ size e + b
size_turn b d v e h s =
    omega (
      arith,
      weigh_mono 1 1 1 1 (λ i. turn (1 + b) (λ i. 1) (target v i)) (λ i. 1 + b * hit (target v i)) (omega arith) (λ i. turn_hit b (target v i)) (omega arith) e,
      weigh_add 1 0 1 0 (λ i. 1) (λ i. b * hit (target v i)) e,
      weigh_scale b (λ i. hit (target v i)) e,
      le_once (weigh 0 (λ i. hit (target v i)) 0 e) b (one_hit d v e h s),
      size-weigh e,
    )

-- from which level the calls at level j come
abbrev before : Event → ℕ → ℕ
before (start n) zero = 0
before (start n) (suc zero) = 0
before (start n) (suc (suc j)) = suc j
before (char c) j = j
before (end n) j = suc j
before finish j = suc j

abbrev fresh : Event → ℕ → ℕ
fresh v j = lifted (delta j) (level_of v children) + lifted (delta j) (level_of v siblings)

comes : (v : Event) (j i : ℕ) → turn (fresh v j) (delta j) (target v i) ≤ delta (before v j) i
comes (start n) zero zero = omega arith
comes (start n) zero (suc i) = omega arith
comes (start n) (suc zero) zero = omega arith
comes (start n) (suc zero) (suc i) = omega arith
comes (start n) (suc (suc j)) zero = omega arith
comes (start n) (suc (suc j)) (suc i) = omega arith
comes (char c) zero zero = omega arith
comes (char c) (suc j) zero = omega arith
comes (char c) zero (suc i) = omega arith
comes (char c) (suc j) (suc i) = omega arith
comes (end n) j zero = omega arith
comes (end n) j (suc i) = omega arith
comes finish j i = omega arith

above : (d : ℕ) (v : Event) (j : ℕ) → allowed d v → opened d v < j → d < before v j
above d (start n) zero h l = omega arith
above d (start n) (suc zero) h l = omega arith
above d (start n) (suc (suc j)) h l = omega arith
above d (char c) j h l = l
above d (end n) j h l = let m : pred d < j = l in omega arith
above d finish j h l = omega arith

module _ (M : Table) (R : ℕ) (L : Linear M) (S : Small M R) where
  waiting-step : (v : Event) (j : ℕ) (e : Expr) → waiting j (held (step M v e)) ≤ waiting (before v j) e
  waiting-step v j e =
      omega (
        arith,
        weigh-held 0 (delta j) 0 (step M v e),
        weigh-step M R L S v 0 (delta j) 0 (fresh v j) (λ q. own_most q) e,
        weigh_mono 0 0 0 0 (λ i. turn (fresh v j) (delta j) (target v i)) (delta (before v j)) (omega arith) (comes v j) (omega arith) e,
      )
    where
      own_most : (q : ℕ) → own 0 (λ x. lifted (delta j) (level_of v x)) 0 (M.rule q (match_of v)) ≤ fresh v j
      own_most q =
          let r = M.rule q (match_of v) in
          omega (arith, own_calls (λ x. lifted (delta j) (level_of v x)) r, calls-most (λ x. lifted (delta j) (level_of v x)) r (L.once q (match_of v)))

  single_step : (d : ℕ) (v : Event) (e : Expr) → allowed d v → Single d e → Single (opened d v) (held (step M v e))
  single_step d v e h s =
      record {
        one = λ i. omega (arith, waiting-step v i e, s.one (before v i));
        none_above = λ i l. omega (arith, waiting-step v i e, s.none_above (before v i) (above d v i h l));
      }

  lifted_one : (o : Option ℕ) → lifted (λ i. 1) o ≤ 1
  lifted_one none = omega arith
  lifted_one (some i) = omega arith

  size_step : (d : ℕ) (v : Event) (e : Expr) → allowed d v → Single d e → size (held (step M v e)) ≤ size e + R
  size_step d v e h s =
      omega (
        arith,
        size-weigh (held (step M v e)),
        weigh-held 1 (λ i. 1) 1 (step M v e),
        weigh-step M R L S v 1 (λ i. 1) 1 (1 + R) (λ q. omega (arith, own_size (λ x. lifted (λ i. 1) (level_of v x)) (λ x. lifted_one (level_of v x)) (M.rule q (match_of v)), S.most q (match_of v))) e,
        size_turn R d v e h s,
      )

  -- the next event's steps
  pub steps_bound : (d : ℕ) (v : Event) (e : Expr) → allowed d v → Single d e → cost M v e ≤ size e + R + 4
  steps_bound d v e h s = omega (arith, cost-weigh M R L S v e, size_turn (R + 4) d v e h s)

  pub single_run : (d : ℕ) (vs : List Event) (e : Expr) → Accepted d vs → Single d e → Single (opened_by d vs) (after M vs e)
  unfolding after
  single_run d [] e h s = s
  single_run d (v ∷ vs) e h s = single_run (opened d v) vs (held (step M v e)) h.1 (single_step d v e h.0 s)

  pub size_run : (d : ℕ) (vs : List Event) (e : Expr) → Accepted d vs → Single d e → size (after M vs e) ≤ size e + length vs * R
  unfolding after
  size_run d [] e h s = omega (arith, zero-mul R)
  size_run d (v ∷ vs) e h s =
      omega (arith, size_run (opened d v) vs (held (step M v e)) h.1 (single_step d v e h.0 s), size_step d v e h.0 s, add-mul 1 (length vs) R)

  blanks-weigh : (t : ℕ) (w : ℕ → ℕ) (a n : ℕ) → weighs t w a (blanks n) ≡ n * a
  unfolding weigh blanks
  blanks-weigh t w a zero = omega (arith, zero-mul a)
  blanks-weigh t w a (suc n) = omega (arith, blanks-weigh t w a n, add-mul 1 n a)

  pub single_initial : Single 0 (initial M)
  unfolding initial weigh
  single_initial = record { one = one₀; none_above = λ i l. above₀ i l }
    where
      one₀ : (i : ℕ) → waiting i (initial M) ≤ 1
      one₀ zero = omega (arith, blanks-weigh 0 (delta 0) 0 (M.rank 0), mul-zero (M.rank 0))
      one₀ (suc i) = omega (arith, blanks-weigh 0 (delta (suc i)) 0 (M.rank 0), mul-zero (M.rank 0))

      above₀ : (i : ℕ) → 0 < i → waiting i (initial M) ≡ 0
      above₀ zero l = absurd (omega arith)
      above₀ (suc i) l = omega (arith, blanks-weigh 0 (delta (suc i)) 0 (M.rank 0), mul-zero (M.rank 0))

  pub size-initial : size (initial M) ≡ 1 + M.rank 0
  unfolding initial weigh
  size-initial = omega (arith, size-weigh (initial M), blanks-weigh 1 (λ i. 1) 1 (M.rank 0), mul-one (M.rank 0))
