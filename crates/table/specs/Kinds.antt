-- The kinds of fields, as the code tells them. Assumes nothing.
--
--   kind_told    the kind that a tag tells: 1 a name, 2 a state, 3 a rule, 4 the end; nothing of any other
use Rattle.std.specs.Prelude.{ℕ, cond, eqb, Option, None, Some}
use Rattle.table.specs.declared.field.Kind.{Kind}
use Rattle.table.specs.declared.field.Kind.TheVariants.{Name, State, Rule, End}

abbrev pub kind_told : ℕ → Option Kind
kind_told t = cond (eqb t 1) (Some Name) (cond (eqb t 2) (Some State) (cond (eqb t 3) (Some Rule) (cond (eqb t 4) (Some End) None)))
