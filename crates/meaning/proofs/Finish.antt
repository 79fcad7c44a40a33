-- Document 01's finish, "as end, for level 1. No element is open, so no other level exists", and definition 8's $, which
-- rewrites a call of every level, are the same: `finish_as_end`, `finish_to_the_letter`. Assumes nothing.
use Prim.Native.Nat.{ℕ, zero, suc, ◌≤◌}
use mathlib.Core.Path.{◌≡◌, refl, ap, ap₂, ◌∙◌}
use mathlib.Core.Option.{none}
use native.Mathlib.Omega.{arith}
use Rattle.meaning.specs.Event.{end, finish}
use Rattle.meaning.specs.Held.{Expr, ε, opening, closing, chr, wait, Args, ∅, also, target, join, argument, instance, rewritten, step, steps, last_call, last_step, last_steps}
use Rattle.meaning.specs.Rules.{on_empty, Rhs, done, element, matched, letter, matched_letter, value, call, Table}
use Rattle.meaning.specs.Valid.{Vocabulary, Valid, ValidAll}

-- a right side for the empty list is the same at an end and at a finish
module _ (n : ℕ) (vs : Args) where
  mutual
    unfolding instance

    instance-end : (r : Rhs) (k : Expr) → instance (end n) vs r k ≡ instance finish vs r k
    instance-end done k = refl
    instance-end (element m b r) k = rw (instance-end r k) (ap (opening m) (instance-end b (closing m (instance finish vs r k))))
    instance-end (matched b r) k = rw (instance-end r k) (ap (opening 0) (instance-end b (closing 0 (instance finish vs r k))))
    instance-end (letter c r) k = ap (chr c) (instance-end r k)
    instance-end (matched_letter r) k = ap (chr 0) (instance-end r k)
    instance-end (value j r) k = ap (join (argument vs j)) (instance-end r k)
    instance-end (call x q rs r) k = instance-end r k

module _ (K : Vocabulary) (M : Table) where
  call-end : (n q i : ℕ) (es : Args) (e : Expr) → i ≤ 0 → rewritten M (end n) q (target (end n) i) es e ≡ rewritten M finish q none es e
  call-end n q zero es e l = instance-end n es (M.rule q on_empty) e
  call-end n q (suc i) es e l = absurd (omega arith)

  call_last : (q i : ℕ) (es : Args) (e : Expr) → i ≤ 0 → last_call M q i es e ≡ rewritten M finish q none es e
  call_last q zero es e l = refl
  call_last q (suc i) es e l = absurd (omega arith)

  mutual
    unfolding step

    pub finish_as_end : (n : ℕ) (e : Expr) → Valid K 0 e → step M (end n) e ≡ step M finish e
    finish_as_end n ε h = refl
    finish_as_end n (opening m e) h = ap (opening m) (finish_as_end n e h.1)
    finish_as_end n (closing m e) h = ap (closing m) (finish_as_end n e h.1)
    finish_as_end n (chr c e) h = ap (chr c) (finish_as_end n e h.1)
    finish_as_end n (wait q i es e) h = call-end n q i (steps M (end n) es) (step M (end n) e) h.1 ∙ ap₂ (λ (a : Args) (k : Expr). rewritten M finish q none a k) (finish_as_ends n es h.3) (finish_as_end n e h.4)

    finish_as_ends : (n : ℕ) (es : Args) → ValidAll K 0 es → steps M (end n) es ≡ steps M finish es
    finish_as_ends n ∅ h = refl
    finish_as_ends n (also e es) h = ap₂ also (finish_as_end n e h.0) (finish_as_ends n es h.1)

  mutual
    unfolding step last_step

    pub finish_to_the_letter : (e : Expr) → Valid K 0 e → last_step M e ≡ step M finish e
    finish_to_the_letter ε h = refl
    finish_to_the_letter (opening m e) h = ap (opening m) (finish_to_the_letter e h.1)
    finish_to_the_letter (closing m e) h = ap (closing m) (finish_to_the_letter e h.1)
    finish_to_the_letter (chr c e) h = ap (chr c) (finish_to_the_letter e h.1)
    finish_to_the_letter (wait q i es e) h =
        call_last q i (last_steps M es) (last_step M e) h.1 ∙ ap₂ (λ (a : Args) (k : Expr). rewritten M finish q none a k) (finish_to_letters es h.3) (finish_to_the_letter e h.4)

    finish_to_letters : (es : Args) → ValidAll K 0 es → last_steps M es ≡ steps M finish es
    finish_to_letters ∅ h = refl
    finish_to_letters (also e es) h = ap₂ also (finish_to_the_letter e h.0) (finish_to_letters es h.1)
