-- A tag by the kind that it tells. Assumes nothing.
use Rattle.std.proofs.Common.{ℕ, ◌≡◌, refl, Bool, true, false, cond, Option, Some, None}
use Rattle.std.proofs.Math.Dec.{eqb}
use Rattle.std.proofs.lemmas.Bool.{eqb-true}
use Rattle.table.specs.Kinds.{kind_told}
use Rattle.table.specs.declared.field.Kind.{Kind}
use Rattle.table.specs.declared.field.Kind.TheVariants.{Name, State, Rule, End}

module _ (t : ℕ) where
  abbrev choice : Bool → Bool → Bool → Bool → Option Kind
  choice a b c d = cond a (Some Name) (cond b (Some State) (cond c (Some Rule) (cond d (Some End) None)))

  name_by : (a b c d : Bool) → choice a b c d ≡ Some Name → a ≡ true
  name_by true b c d e = refl
  name_by false true c d e = cc
  name_by false false true d e = cc
  name_by false false false true e = cc
  name_by false false false false e = cc

  pub tag_of_name : kind_told t ≡ Some Name → t ≡ 1
  tag_of_name e = eqb-true t 1 (name_by (eqb t 1) (eqb t 2) (eqb t 3) (eqb t 4) e)

  state_by : (a b c d : Bool) → choice a b c d ≡ Some State → b ≡ true
  state_by true b c d e = cc
  state_by false true c d e = refl
  state_by false false true d e = cc
  state_by false false false true e = cc
  state_by false false false false e = cc

  pub tag_of_state : kind_told t ≡ Some State → t ≡ 2
  tag_of_state e = eqb-true t 2 (state_by (eqb t 1) (eqb t 2) (eqb t 3) (eqb t 4) e)

  rule_by : (a b c d : Bool) → choice a b c d ≡ Some Rule → c ≡ true
  rule_by true b c d e = cc
  rule_by false true c d e = cc
  rule_by false false true d e = refl
  rule_by false false false true e = cc
  rule_by false false false false e = cc

  pub tag_of_rule : kind_told t ≡ Some Rule → t ≡ 3
  tag_of_rule e = eqb-true t 3 (rule_by (eqb t 1) (eqb t 2) (eqb t 3) (eqb t 4) e)

  end_by : (a b c d : Bool) → choice a b c d ≡ Some End → d ≡ true
  end_by true b c d e = cc
  end_by false true c d e = cc
  end_by false false true d e = cc
  end_by false false false true e = refl
  end_by false false false false e = cc

  pub tag_of_end : kind_told t ≡ Some End → t ≡ 4
  tag_of_end e = eqb-true t 4 (end_by (eqb t 1) (eqb t 2) (eqb t 3) (eqb t 4) e)

pub ruleset kind_laws = (tag_of_name, tag_of_state, tag_of_rule, tag_of_end)
