use Rattle.std.proofs.Common.{◌≡◌, ℕ, cond, ◌&&◌, eqb, ltb, get_or}
use Rattle.table.proofs.index.fill_free.Given as goal

-- the words passed so far
abbrev pub invariant-loop-word : goal.invariant-loop-word
invariant-loop-word l = (k : ℕ) → get_or l.words k 0 ≡ cond (ltb k l.word-index && eqb (get_or l.fn.words k 0) 0) l.at (get_or l.fn.words k 0)
