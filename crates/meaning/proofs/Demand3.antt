-- Demand 3 over events: what is held, what waits, and what the next event costs. Assumes nothing.
--
-- The letter: "Take a table whose rules each read the children at most once, the siblings at most once and each carried value
-- at most once. Start fresh. After n accepted events, finish included, the held part is at most 1 + p + n·R words and at most
-- one call waits for each level; the next event takes at most S + R + 4 steps. Here p counts the first state's carried values,
-- R is the largest rule's size, S the words held."
use Prim.Native.Nat.{ℕ, zero, suc, ◌+◌, ◌*◌, ◌≤◌, ◌<◌}
use mathlib.Core.Path.{◌≡◌, refl}
use mathlib.Core.List.{List}
use native.Mathlib.Omega.{arith}
use lib.ListN.{length}
use Rattle.meaning.specs.Count.{size, cost}
use Rattle.meaning.specs.Event.{Event, allowed, Accepted, opened_by}
use Rattle.meaning.specs.Held.{after, initial}
use Rattle.meaning.specs.Linear.{delta, waiting, reads, reads_all, uses, Linear, Small}
use Rattle.meaning.specs.Rules.{Match, Rhs, done, element, matched, letter, matched_letter, value, call, RArgs, no_arg, arg, Table}
use Rattle.meaning.specs.Valid.{Vocabulary, RhsValid, RArgsValid}
use Rattle.meaning.proofs.Linear.{steps_bound, single_run, size_run, single_initial, size-initial}

module _ (M : Table) (R : ℕ) (L : Linear M) (S : Small M R) where
  pub room : (vs : List Event) → Accepted 0 vs → size (after M vs (initial M)) ≤ 1 + M.rank 0 + length vs * R
  room vs h = omega (arith, size_run M R L S 0 vs (initial M) h (single_initial M R L S), size-initial M R L S)

  -- calls inside arguments are counted
  pub one_each : (vs : List Event) → Accepted 0 vs → (i : ℕ) → waiting i (after M vs (initial M)) ≤ 1
  one_each vs h = (single_run M R L S 0 vs (initial M) h (single_initial M R L S)).one

  pub next-steps : (vs : List Event) (v : Event) → Accepted 0 vs → allowed (opened_by 0 vs) v → cost M v (after M vs (initial M)) ≤ size (after M vs (initial M)) + R + 4
  next-steps vs v h a = steps_bound M R L S (opened_by 0 vs) v (after M vs (initial M)) a (single_run M R L S 0 vs (initial M) h (single_initial M R L S))

-- a right side of a state with n carried values uses none past them: so every table of document 01 is `Small`
module _ (K : Vocabulary) (p : Match) (n : ℕ) (j : ℕ) (l : n ≤ j) where
  delta_apart : (i k : ℕ) → k < i → delta i k ≡ 0
  delta_apart zero k h = absurd (omega arith)
  delta_apart (suc i) zero h = refl
  delta_apart (suc i) (suc k) h = delta_apart i k (omega arith)

  mutual
    unfolding reads

    pub uses-known : (r : Rhs) → RhsValid K p n r → uses j r ≡ 0
    uses-known done h = refl
    uses-known (element m b r) h = omega (arith, uses-known b h.1, uses-known r h.2)
    uses-known (matched b r) h = omega (arith, uses-known b h.1, uses-known r h.2)
    uses-known (letter c r) h = uses-known r h.1
    uses-known (matched_letter r) h = uses-known r h.1
    uses-known (value i r) h = omega (arith, delta_apart j i (omega (arith, h.0)), uses-known r h.1)
    uses-known (call x q rs r) h = omega (arith, uses_all_known rs h.3, uses-known r h.4)

    uses_all_known : (rs : RArgs) → RArgsValid K p n rs → reads_all (λ x. 0) (delta j) rs ≡ 0
    uses_all_known no_arg h = refl
    uses_all_known (arg r rs) h = omega (arith, uses-known r h.0, uses_all_known rs h.1)
