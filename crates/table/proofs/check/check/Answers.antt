-- `table::check::check` meets its contract: field by field to the end. Assumes nothing.
use Rattle.std.proofs.Common.{◌≡◌, ap, ◌-◌, cond, eqb, ◌∙◌, ◌<◌, length, drop, Some, None, sym, rules}
use Rattle.table.specs.Format.{Contents, refusal}
use Rattle.table.specs.Names.{names_at, ranks_at}
use Rattle.table.specs.Checked.{front_field, answer, Has}
use Rattle.table.specs.Tally.{refusal_number}
use Rattle.table.proofs.Reading.{has-of, reading_all, reading_stop, reading_cut, reading_why, reading_end, reading_more, reading_names, reading_states}
use Rattle.table.proofs.check.check.Goals as goal

pub returns-in_default : goal.returns-in_default
returns-in_default c =
    let p = c.loop-parts.parts in
    let z : 0 < length c.loop-parts.rest.now = search rules in
    let f : front_field c.loop-parts.rest.now ≡ None = rw c.in_default.is at c.first_field.ensures in
    record { answer = reading_cut c.args.table.now c.loop-parts.rest.now p.names p.base p.states p.next c.loop-parts.invariant.reading c.if-table-gt-LONGEST_TABLE.false z f; parts = tt }

pub returns-in-Err : goal.returns-in-Err
returns-in-Err c =
    let p = c.loop-parts.parts in
    let q = c.in-Some.field in
    let f : front_field c.loop-parts.rest.now ≡ Some (q.tag, q.content.now, q.behind.now) = rw c.in-Some.is at c.first_field.ensures in
    let r : refusal_number c.in-Err.why ≡ refusal (names_at c.args.table.now 0 p.names) (ranks_at (drop p.base c.args.table.now) 0 p.states) p.next q.tag q.content.now =
    rw (c.in-Err.is, c.loop-parts.invariant.table) at c.refusal.ensures in
    record { answer = reading_why c.args.table.now c.loop-parts.rest.now p.names p.base p.states p.next c.loop-parts.invariant.reading _ _ _ f c.if-table-gt-LONGEST_TABLE.false c.in-Err.why (sym r); parts = tt }

pub returns-then-is_end : goal.returns-then-is_end
returns-then-is_end c =
    let p = c.loop-parts.parts in
    let q = c.in-Some.field in
    let f : front_field c.loop-parts.rest.now ≡ Some (q.tag, q.content.now, q.behind.now) = rw c.in-Some.is at c.first_field.ensures in
    let z : refusal (names_at c.args.table.now 0 p.names) (ranks_at (drop p.base c.args.table.now) 0 p.states) p.next q.tag q.content.now ≡ 0 =
    sym (rw c.loop-parts.invariant.table at c.in_default-refusal.ensures) in
    let e : answer (length c.args.table.now) c.ended.result ≡ (cond (eqb (length q.behind.now) 0) 0 1, length c.args.table.now - length q.behind.now) = rw c.loop-parts.invariant.table at c.ended.ensures.answer in
    let R = c.loop-parts.invariant.reading in
    let all = reading_all c.args.table.now c.loop-parts.rest.now p.names p.base p.states p.next R _ _ _ f c.if-table-gt-LONGEST_TABLE.false (c.is_end.ensures.0 c.if-is_end.true) z in
    let has : Has c.args.table.now p = record {
      table = c.loop-parts.invariant.table;
      names = rw c.loop-parts.invariant.table (sym (ap Contents.names all ∙ R.names));
      ranks = rw c.loop-parts.invariant.table (sym (ap Contents.ranks all ∙ R.ranks));
      next = sym (ap Contents.next all ∙ R.next);
    } in
    record { answer = e ∙ reading_end c.args.table.now c.loop-parts.rest.now p.names p.base p.states p.next c.loop-parts.invariant.reading _ _ _ f c.if-table-gt-LONGEST_TABLE.false (c.is_end.ensures.0 c.if-is_end.true) z; parts = has-of c.args.table.now p has c.ended.result c.ended.ensures.same }

pub with-parts-requires-clause-names : goal.with-parts-requires-clause-names
with-parts-requires-clause-names c =
    let p = c.loop-parts.parts in
    let q = c.in-Some.field in
    let f : front_field c.loop-parts.rest.now ≡ Some (q.tag, q.content.now, q.behind.now) = rw c.in-Some.is at c.first_field.ensures in
    let z : refusal (names_at c.args.table.now 0 p.names) (ranks_at (drop p.base c.args.table.now) 0 p.states) p.next q.tag q.content.now ≡ 0 =
    sym (rw c.loop-parts.invariant.table at c.in_default-refusal.ensures) in
    reading_names c.args.table.now c.loop-parts.rest.now p.names p.base p.states p.next c.loop-parts.invariant.reading _ _ _ f (λ e. let w = c.is_end.ensures.1 e in cc) z

pub with-parts-requires-clause-states : goal.with-parts-requires-clause-states
with-parts-requires-clause-states c =
    let p = c.loop-parts.parts in
    let q = c.in-Some.field in
    let f : front_field c.loop-parts.rest.now ≡ Some (q.tag, q.content.now, q.behind.now) = rw c.in-Some.is at c.first_field.ensures in
    let z : refusal (names_at c.args.table.now 0 p.names) (ranks_at (drop p.base c.args.table.now) 0 p.states) p.next q.tag q.content.now ≡ 0 =
    sym (rw c.loop-parts.invariant.table at c.in_default-refusal.ensures) in
    reading_states c.args.table.now c.loop-parts.rest.now p.names p.base p.states p.next c.loop-parts.invariant.reading _ _ _ f (λ e. let w = c.is_end.ensures.1 e in cc) z

pub returns : goal.returns
returns c =
    let p = c.loop-parts.parts in
    let z : length c.loop-parts.rest.now ≡ 0 = search rules in
    record { answer = reading_stop c.args.table.now c.loop-parts.rest.now p.names p.base p.states p.next c.loop-parts.invariant.reading c.if-table-gt-LONGEST_TABLE.false z; parts = tt }

pub loop-parts-preserved : goal.loop-parts-preserved
loop-parts-preserved c =
    let p = c.loop-parts.parts in
    let q = c.in-Some.field in
    let f : front_field c.loop-parts.rest.now ≡ Some (q.tag, q.content.now, q.behind.now) = rw c.in-Some.is at c.first_field.ensures in
    let z : refusal (names_at c.args.table.now 0 p.names) (ranks_at (drop p.base c.args.table.now) 0 p.states) p.next q.tag q.content.now ≡ 0 =
    sym (rw c.loop-parts.invariant.table at c.in_default-refusal.ensures) in
    let r = reading_more c.args.table.now c.loop-parts.rest.now p.names p.base p.states p.next c.loop-parts.invariant.reading _ _ _ f (λ e. let w = c.is_end.ensures.1 e in cc) z in
    record { table = c.with-parts.ensures.table ∙ c.loop-parts.invariant.table; reading = rw (c.with-parts.ensures.names, c.with-parts.ensures.base, c.with-parts.ensures.states, c.with-parts.ensures.next) r }
