-- `table::index::note_fields` meets its contract: the end comes, and the index is the table's. Assumes nothing.
use Rattle.std.proofs.Common.{◌≡◌, Some}
use Rattle.table.specs.Checked.{front_field}
use Rattle.table.proofs.Indexing.{noting_none, noting_end}
use Rattle.table.proofs.index.note_fields.Goals as goal

pub returns-then-is_end : goal.returns-then-is_end
returns-then-is_end c =
    let q = c.in-Some.field in
    let f : front_field c.loop-field.rest.now ≡ Some (q.tag, q.content.now, q.behind.now) = c.in-Some.ensures in
    noting_end c.args.table.now c.loop-field.rest.now c.loop-field.words c.loop-field.invariant c.requires.accepted _ _ _ f (c.is_end.ensures.0 c.if-is_end.true)

pub returns : goal.returns
returns c = noting_none c.args.table.now c.loop-field.rest.now c.loop-field.words c.loop-field.invariant c.requires.accepted c.in_default.ensures
