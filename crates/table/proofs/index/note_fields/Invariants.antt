use Rattle.std.proofs.Common.{length}
use Rattle.table.proofs.Indexing.{Noting}
use Rattle.table.proofs.index.note_fields.Given as goal

-- the words have what stands before the bytes that are left
abbrev pub invariant-loop-field : goal.invariant-loop-field
invariant-loop-field l = Noting l.table l.rest l.words

abbrev pub decreases-loop-field : goal.decreases-loop-field
decreases-loop-field l = length l.rest
