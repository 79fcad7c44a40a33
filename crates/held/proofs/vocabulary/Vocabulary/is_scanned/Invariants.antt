use Rattle.std.proofs.Common.{◌≡◌, drop}
use Rattle.table.specs.Index.{vocab}
use Rattle.held.specs.Scan.{scan}
use Rattle.held.proofs.vocabulary.Vocabulary.is_scanned.Given as goal

-- from here with what is owed now the scan ends the same
abbrev pub invariant-loop-w : goal.invariant-loop-w
invariant-loop-w l = scan (vocab l.self) l.opened (drop l.w-index l.words) l.owed ≡ scan (vocab l.self) l.opened l.words 0
