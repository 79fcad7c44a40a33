use Rattle.std.proofs.Common.{◌≡◌, ◌+◌, drop}
use Rattle.table.specs.Index.{vocab}
use Rattle.held.specs.Skip.{args_len}
use Rattle.held.proofs.vocabulary.Vocabulary.skip_args.Given as goal

-- from here with what is owed now the same place is reached
abbrev pub invariant-loop-at : goal.invariant-loop-at
invariant-loop-at l = l.at + args_len (vocab l.self) (drop l.at l.words) l.owed ≡ args_len (vocab l.self) l.words l.n
