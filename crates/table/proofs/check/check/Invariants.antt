use Rattle.std.proofs.Common.{◌≡◌, length}
use Rattle.table.proofs.Reading.{Reading}
use Rattle.table.proofs.check.check.Given as goal

-- what was read decides with what is left
abbrev pub invariant-loop-parts : goal.invariant-loop-parts
invariant-loop-parts l =
    record {
      table : l.parts.table.now ≡ l.table;
      reading : Reading l.table l.rest l.parts.names l.parts.base l.parts.states l.parts.next;
    }

abbrev pub decreases-loop-parts : goal.decreases-loop-parts
decreases-loop-parts l = length l.rest
