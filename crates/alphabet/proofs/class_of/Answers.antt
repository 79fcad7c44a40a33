-- `alphabet::class_of` meets its contract: below 128 the class is the byte's entry. Assumes nothing.
use Rattle.std.proofs.Common.{sym, ◌∙◌, ap}
use Rattle.std.proofs.lemmas.Bool.{ltb-true}
use Rattle.alphabet.specs.Classes.{class_of}
use Rattle.alphabet.proofs.Classes.{class_low}
use Rattle.alphabet.proofs.class_of.Goals as goal

pub returns-in-Some : goal.returns-in-Some
returns-in-Some c = c.in-Some.ensures.lookup.1 ∙ class_low c.from.result c.in-Some.class.now (ltb-true _ _ (sym c.in-Some.ensures.lookup.0)) ∙ ap class_of c.from.ensures
