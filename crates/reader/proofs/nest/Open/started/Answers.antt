-- `reader::nest::Open::started` meets its contract: the new fields are in the form of the record. Assumes nothing.
use Rattle.reader.proofs.Nesting.{canonical_more}
use Rattle.reader.proofs.nest.Open.started.Goals as goal

pub invariant_of-result : goal.invariant_of-result
invariant_of-result c = canonical_more _ _ c.self.invariant _ _ c.from-place.ensures c.if-place-eq-MOST.false
