-- Where the arguments of a call stand among the words. Assumes nothing.
--
--   args_len     how many of the words it takes until n owed ends have come, or all
--   Skipped     r is the place after n arguments that begin at `from`, or `to`, where the words end
--   Stands      the argument j of those that begin at `args` stands from a to z, its end not included
use Rattle.std.specs.Prelude.{ℕ, zero, suc, ◌+◌, ◌-◌, ◌≤◌, ◌≡◌, List, [], ◌∷◌}
use Rattle.std.proofs.Math.Seq.{slice}
use Rattle.meaning.specs.Valid.{Vocabulary}
use Rattle.held.specs.Words.{item_of}
use Rattle.held.specs.Scan.{owe}

unfoldable pub args_len : Vocabulary → List ℕ → ℕ → ℕ
args_len K [] n = 0
args_len K (w ∷ ws) zero = 0
args_len K (w ∷ ws) (suc n) = suc (args_len K ws (owe K (item_of w) (suc n)))

pub record Skipped (K : Vocabulary) (area : List ℕ) (from to n r : ℕ) : Type 0 where
  pub place : r ≡ from + args_len K (slice from to area) n
  pub low : from ≤ r
  pub high : r ≤ to

pub record Stands (K : Vocabulary) (area : List ℕ) (from to j a z : ℕ) : Type 0 where
  pub starts : a ≡ from + args_len K (slice from to area) j
  pub ends : z ≡ a + (args_len K (slice a to area) 1 - 1)
  pub low : from ≤ a
  pub order : a ≤ z
  pub high : z ≤ to
