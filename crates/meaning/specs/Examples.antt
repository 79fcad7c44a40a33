-- The tables and logs of document 01, "Examples to agree with". Assumes nothing.
--
--   Copy, Flip, Twin, Sheet   the tables, in document 01's words
--   sheet_log, sheet_out        the log and the sheet of the program's example
use Rattle.std.specs.Prelude.{ℕ, zero, suc, List, [], ◌∷◌}
use Rattle.meaning.specs.Forest.{Forest, nil, node, leaf}
use Rattle.meaning.specs.Rules.{children, siblings, Match, on_empty, on_element, on_character, Rhs, done, element, matched, matched_letter, value, call, no_arg, arg, Table}
use Rattle.meaning.specs.Event.{Event}

-- "rest" is a call of the same state on the siblings; an element that holds a call on its children, then rest
abbrev pub rest : ℕ → Rhs
rest q = call siblings q no_arg done

abbrev pub holding : ℕ → ℕ → Rhs
holding p q = matched (call children p no_arg done) (rest q)

abbrev pub copy_rule : ℕ → Match → Rhs
copy_rule q on_empty = done
copy_rule q (on_element n) = holding q q
copy_rule q on_character = matched_letter (rest q)

abbrev pub Copy : Table
Copy = record { rank = λ q. 0; rule = copy_rule }

abbrev pub flip_rule : ℕ → Match → Rhs
flip_rule q on_empty = value 0 done
flip_rule q (on_element n) = call siblings 0 (arg (matched (call children 0 (arg done no_arg) done) (value 0 done)) no_arg) done
flip_rule q on_character = call siblings 0 (arg (matched_letter (value 0 done)) no_arg) done

abbrev pub Flip : Table
Flip = record { rank = λ q. 1; rule = flip_rule }

abbrev pub twin_rule : ℕ → Match → Rhs
twin_rule zero on_empty = value 0 done
twin_rule zero (on_element n) = done
twin_rule zero on_character = call siblings 0 (arg (call siblings 1 (arg (value 0 done) no_arg) done) no_arg) done
twin_rule (suc q) on_empty = value 0 (value 0 done)
twin_rule (suc q) (on_element n) = done
twin_rule (suc q) on_character = call siblings 1 (arg (value 0 done) no_arg) done

abbrev pub Twin : Table
Twin = record { rank = λ q. 1; rule = twin_rule }

-- names: 0 log, 1 pt, 2 v, 3 val, 4 none; state 2 copies
abbrev pub sheet_rule : ℕ → Match → Rhs
sheet_rule zero on_empty = done
sheet_rule zero (on_element zero) = holding 0 0
sheet_rule zero (on_element (suc zero)) = holding 1 0
sheet_rule zero (on_element (suc (suc n))) = rest 0
sheet_rule zero on_character = rest 0
sheet_rule (suc zero) on_empty = element 4 done done
sheet_rule (suc zero) (on_element zero) = rest 1
sheet_rule (suc zero) (on_element (suc zero)) = rest 1
sheet_rule (suc zero) (on_element (suc (suc zero))) = element 3 (call children 2 no_arg done) done
sheet_rule (suc zero) (on_element (suc (suc (suc n)))) = rest 1
sheet_rule (suc zero) on_character = rest 1
sheet_rule (suc (suc q)) m = copy_rule 2 m

abbrev pub Sheet : Table
Sheet = record { rank = λ q. 0; rule = sheet_rule }

-- <log><pt><v>12</v></pt><pt></pt></log>
abbrev pub sheet_log : Forest
sheet_log = node 0 (node 1 (node 2 (leaf 49 (leaf 50 nil)) nil) (node 1 nil nil)) nil

-- <log><pt><val>12</val></pt><pt><none></none></pt></log>
abbrev pub sheet_out : Forest
sheet_out = node 0 (node 1 (node 3 (leaf 49 (leaf 50 nil)) nil) (node 1 (node 4 nil nil) nil)) nil

-- n times the same event
unfoldable pub times : ℕ → Event → List Event
times zero v = []
times (suc n) v = v ∷ times n v
