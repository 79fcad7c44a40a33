-- Sizes and steps, as document 01 counts them. Assumes nothing.
--
--   size        "counts a tag or character as 1 and a call" of a state with n carried values "1 + n and its arguments"
--   rhs_size     "an element 2 and its content; a character 1; a carried value 0; a call .. 1 + n and its arguments"
--   rule_steps   a right side's steps: "an element, character, carried value or call costs 1 plus what it contains; a carried
--               value also costs its rewritten argument, each time it is used". cs has the steps of each argument
--   cost        an event's steps: "each tag, character and call visited costs 1, arguments included. A rewritten call costs
--               1 and its right side .. An unused argument costs nothing"
--   held_sizes, all_steps   the sizes held and the steps, after each event of a run
use Rattle.std.specs.Prelude.{ℕ, ◌+◌, List, [], ◌∷◌, get_or}
use Rattle.std.proofs.Math.Option.{Option, none, some}
use Rattle.meaning.specs.Rules.{Rhs, RArgs, done, element, matched, letter, matched_letter, value, call, no_arg, arg, Table}
use Rattle.meaning.specs.Event.{Event}
use Rattle.meaning.specs.Held.{Expr, Args, ε, opening, closing, chr, wait, ∅, also, match_of, target, step, held}

unfoldable mutual
  pub size : Expr → ℕ
  size ε = 0
  size (opening n e) = 1 + size e
  size (closing n e) = 1 + size e
  size (chr c e) = 1 + size e
  size (wait q i es e) = 1 + sizes es + size e

  pub sizes : Args → ℕ
  sizes ∅ = 0
  sizes (also e es) = 1 + size e + sizes es

unfoldable mutual
  pub rhs_size : Rhs → ℕ
  rhs_size done = 0
  rhs_size (element m b r) = 2 + rhs_size b + rhs_size r
  rhs_size (matched b r) = 2 + rhs_size b + rhs_size r
  rhs_size (letter d r) = 1 + rhs_size r
  rhs_size (matched_letter r) = 1 + rhs_size r
  rhs_size (value j r) = rhs_size r
  rhs_size (call x q rs r) = 1 + rhs_sizes rs + rhs_size r

  pub rhs_sizes : RArgs → ℕ
  rhs_sizes no_arg = 0
  rhs_sizes (arg r rs) = 1 + rhs_size r + rhs_sizes rs

module _ (cs : List ℕ) where
  unfoldable mutual
    pub rule_steps : Rhs → ℕ
    rule_steps done = 0
    rule_steps (element m b r) = 1 + rule_steps b + rule_steps r
    rule_steps (matched b r) = 1 + rule_steps b + rule_steps r
    rule_steps (letter d r) = 1 + rule_steps r
    rule_steps (matched_letter r) = 1 + rule_steps r
    rule_steps (value j r) = 1 + get_or cs j 0 + rule_steps r
    rule_steps (call x q rs r) = 1 + rules_steps rs + rule_steps r

    pub rules_steps : RArgs → ℕ
    rules_steps no_arg = 0
    rules_steps (arg r rs) = rule_steps r + rules_steps rs

unfoldable pub total : List ℕ → ℕ
total [] = 0
total (c ∷ cs) = c + total cs

-- what a call costs beside its own step: cs has the steps of its arguments
unfoldable pub call_steps : Table → Event → ℕ → Option ℕ → List ℕ → ℕ
call_steps M v q none cs = rule_steps cs (M.rule q (match_of v))
call_steps M v q (some i) cs = total cs

module _ (M : Table) (v : Event) where
  unfoldable mutual
    pub cost : Expr → ℕ
    cost ε = 0
    cost (opening n e) = 1 + cost e
    cost (closing n e) = 1 + cost e
    cost (chr c e) = 1 + cost e
    cost (wait q i es e) = 1 + call_steps M v q (target v i) (costs es) + cost e

    pub costs : Args → List ℕ
    costs ∅ = []
    costs (also e es) = cost e ∷ costs es

unfoldable pub held_sizes : Table → List Event → Expr → List ℕ
held_sizes M [] e = []
held_sizes M (v ∷ vs) e = size (held (step M v e)) ∷ held_sizes M vs (held (step M v e))

unfoldable pub all_steps : Table → List Event → Expr → List ℕ
all_steps M [] e = []
all_steps M (v ∷ vs) e = cost M v e ∷ all_steps M vs (held (step M v e))
