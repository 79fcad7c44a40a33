-- The check of the example tables, computed: each clause of refusals 1, 2 and 3 is reached, and the tables of document 01 read
-- as the tables of `meaning`. Assumes nothing.
use Prim.Native.Nat.{ℕ}
use mathlib.Core.Path.{◌≡◌, refl}
use mathlib.Core.List.{List, [], ◌∷◌, ◌++◌, map}
use mathlib.Core.Bool.{Bool, true, ◌&&◌}
use lib.ListN.{replicate}
use lib.Dec.{eqb}
use Rattle.alphabet.specs.Classes.{name_start, name_part, is_leaf}
use Rattle.meaning.specs.Count.{rhs_size}
use Rattle.meaning.specs.Examples.{copy_rule, flip_rule, twin_rule, sheet_rule}
use Rattle.meaning.specs.Rules.{Match, on_empty, on_element, on_character, Rhs}
use Rattle.table.specs.Examples.{short, final, copy_bytes, flip_bytes, twin_bytes, sheet_bytes, Case, case, one_rule, many_names, many_states, often, form_cases, rule_cases, limit_cases}
use Rattle.table.specs.Format.{fields_from, fields, all_parts, same_bytes, number_of, name_refusal, state_refusal, rule_refusal, end_refusal, refusal, added, check_fields, read}
use Rattle.table.specs.Rules.{args_of, rhs_of, side_of, picked, table_of, rules_of, largest_of, largest}
use Rattle.table.specs.Side.{items, all_allowed, closed, few, words_of, judged, side_number}

-- a case's table gets its number and place
abbrev agrees : Case → Bool
agrees c = let r = read c.bytes in eqb r.number c.number && eqb r.place c.place

abbrev all : List Case → Bool
all [] = true
all (c ∷ cs) = agrees c && all cs

form_cases_lem : all form_cases ≡ true
unfolding read fields fields_from check_fields refusal name_refusal state_refusal rule_refusal end_refusal added all_parts same_bytes number_of items all_allowed closed few words_of judged side_number name_start name_part is_leaf form_cases
form_cases_lem = refl

rule_cases_lem : all (map (λ c. case (one_rule c) 3 8) rule_cases) ≡ true
unfolding read fields fields_from check_fields refusal name_refusal state_refusal rule_refusal end_refusal added all_parts same_bytes number_of items all_allowed closed few words_of judged side_number name_start name_part is_leaf rule_cases often
rule_cases_lem = refl

limit_cases_lem : all limit_cases ≡ true
unfolding read fields fields_from check_fields refusal name_refusal state_refusal rule_refusal end_refusal added all_parts same_bytes number_of items all_allowed closed few words_of judged side_number name_start name_part is_leaf limit_cases often many_names many_states
limit_cases_lem = refl

-- a table of 32,769 bytes, whatever its first field
too_long : agrees (case (replicate 32769 9) 2 0) ≡ true
unfolding read
too_long = refl

-- a rule of 10,000 uses of a carried value
ten_thousand : agrees (case (short 2 (1 ∷ []) ++ (3 ∷ 78 ∷ 34 ∷ 0 ∷ 0 ∷ often 10000 (0x14 ∷ 0 ∷ [])) ++ final) 0 20012) ≡ true
unfolding read fields fields_from check_fields refusal name_refusal state_refusal rule_refusal end_refusal added all_parts same_bytes number_of items all_allowed closed few words_of judged side_number name_start name_part is_leaf often
ten_thousand = refl

-- the bytes read as the tables of `meaning`: for each state, and for each thing that a log can make it match
abbrev matches : List Match
matches = on_empty ∷ on_element 0 ∷ on_element 1 ∷ on_element 2 ∷ on_element 3 ∷ on_element 4 ∷ on_character ∷ []

abbrev sides : List ℕ → ℕ → List Rhs
sides l q = map (λ m. (rules_of l).rule q m) matches

tables_read : (sides copy_bytes 0 ≡ map (copy_rule 0) matches)
    × (sides flip_bytes 0 ≡ map (flip_rule 0) matches)
    × (sides twin_bytes 0 ≡ map (twin_rule 0) matches)
    × (sides twin_bytes 1 ≡ map (twin_rule 1) matches)
    × (sides sheet_bytes 0 ≡ map (sheet_rule 0) matches)
    × (sides sheet_bytes 1 ≡ map (sheet_rule 1) matches)
    × (sides sheet_bytes 2 ≡ map (sheet_rule 2) matches)
unfolding rules_of table_of side_of rhs_of args_of picked read fields fields_from check_fields refusal name_refusal state_refusal rule_refusal end_refusal added all_parts same_bytes number_of items all_allowed closed few words_of judged side_number name_start name_part is_leaf
tables_read = (refl, refl, refl, refl, refl, refl, refl)

-- document 01 gives R = 4 for Copy and R = 6 for Flip
sizes-read : (largest (read copy_bytes).contents ≡ 4) × (largest (read flip_bytes).contents ≡ 6) × (largest (read twin_bytes).contents ≡ 4) × (largest (read sheet_bytes).contents ≡ 4)
unfolding largest largest_of rhs_size side_of rhs_of args_of read fields fields_from check_fields refusal name_refusal state_refusal rule_refusal end_refusal added all_parts same_bytes number_of items all_allowed closed few words_of judged side_number name_start name_part is_leaf
sizes-read = (refl, refl, refl, refl)
