use Rattle.std.proofs.Common.{◌≡◌, ◌+◌, ◌-◌}
use Rattle.table.specs.Format.{number_of}
use Rattle.table.specs.Names.{names_at}
use Rattle.table.proofs.names.Names.find_name.Given as goal

-- the names passed so far are none of them the bytes
abbrev pub invariant-loop-n : goal.invariant-loop-n
invariant-loop-n l = number_of l.fn.self l.name ≡ l.n + number_of (names_at l.rest 0 (l.n-end - l.n)) l.name
