-- Demand 3's tables, and the calls that wait at a level. Assumes nothing.
--
-- The letter: "a table whose rules each read the children at most once, the siblings at most once and each carried value at
-- most once", counted over the whole right side, inside arguments too.
--
--   weigh       what an expression weighs, t for a tag or character, w i for a call that waits for i end tags, a for an
--               argument; `waiting i`: how many calls wait for i end tags, arguments included
--   reads       what a right side reads, ρ x for each call on x, ν j for each use of the value j; `calls x`: how many calls
--               on x it has, `uses j`: how often it uses the value j
--   Linear      demand 3's class
--   Small       what is true of every table of document 01: at most four carried values, and no right side over R words
use Rattle.std.specs.Prelude.{ℕ, zero, suc, ◌+◌, ◌≤◌, ◌≡◌}
use Rattle.meaning.specs.Rules.{Source, children, siblings, Match, Rhs, RArgs, done, element, matched, letter, matched_letter, value, call, no_arg, arg, Table}
use Rattle.meaning.specs.Held.{Expr, Args, ε, opening, closing, chr, wait, ∅, also}
use Rattle.meaning.specs.Count.{rhs_size}

-- 1 where two numbers, or two sources, are the same
abbrev pub delta : ℕ → ℕ → ℕ
delta zero zero = 1
delta zero (suc j) = 0
delta (suc i) zero = 0
delta (suc i) (suc j) = delta i j

abbrev pub same : Source → Source → ℕ
same children children = 1
same children siblings = 0
same siblings children = 0
same siblings siblings = 1

module _ (t : ℕ) (w : ℕ → ℕ) (a : ℕ) where
  unfoldable mutual
    pub weigh : Expr → ℕ
    weigh ε = 0
    weigh (opening n e) = t + weigh e
    weigh (closing n e) = t + weigh e
    weigh (chr c e) = t + weigh e
    weigh (wait q i es e) = w i + weighs es + weigh e

    pub weighs : Args → ℕ
    weighs ∅ = 0
    weighs (also e es) = a + weigh e + weighs es

abbrev pub waiting : ℕ → Expr → ℕ
waiting i = weigh 0 (delta i) 0

module _ (ρ : Source → ℕ) (ν : ℕ → ℕ) where
  unfoldable mutual
    pub reads : Rhs → ℕ
    reads done = 0
    reads (element m b r) = reads b + reads r
    reads (matched b r) = reads b + reads r
    reads (letter d r) = reads r
    reads (matched_letter r) = reads r
    reads (value j r) = ν j + reads r
    reads (call x q rs r) = ρ x + reads_all rs + reads r

    pub reads_all : RArgs → ℕ
    reads_all no_arg = 0
    reads_all (arg r rs) = reads r + reads_all rs

abbrev pub calls : Source → Rhs → ℕ
calls x = reads (same x) (λ j. 0)

abbrev pub uses : ℕ → Rhs → ℕ
uses j = reads (λ x. 0) (delta j)

pub record Linear (M : Table) : Type 0 where
  pub once : (q : ℕ) (m : Match) (x : Source) → calls x (M.rule q m) ≤ 1
  pub used : (q : ℕ) (m : Match) (j : ℕ) → uses j (M.rule q m) ≤ 1

pub record Small (M : Table) (R : ℕ) : Type 0 where
  pub four : (q : ℕ) (m : Match) (j : ℕ) → 4 ≤ j → uses j (M.rule q m) ≡ 0
  pub most : (q : ℕ) (m : Match) → rhs_size (M.rule q m) ≤ R
