use Rattle.std.proofs.Common.{length}
use Rattle.table.proofs.Sides.{Left}
use Rattle.table.proofs.side.Scope.side.Given as goal

-- what is left of the right side decides the number
abbrev pub invariant-loop-rest : goal.invariant-loop-rest
invariant-loop-rest l = Left l.fn.self.names l.fn.self.states l.fn.self.pattern l.fn.self.values l.fn.bytes l.rest l.tally

abbrev pub decreases-loop-rest : goal.decreases-loop-rest
decreases-loop-rest l = length l.rest
