-- Document 01's examples at the level of trees, computed; the same examples in bytes are proved in `rewriter`. Assumes nothing.
use Prim.Native.Nat.{ℕ}
use mathlib.Core.Path.{◌≡◌, refl}
use mathlib.Core.List.{List, [], ◌∷◌}
use Rattle.meaning.specs.Count.{size, rule_steps, total, call_steps, cost, held_sizes, all_steps}
use Rattle.meaning.specs.Event.{Event, start, char, end, finish, events, log}
use Rattle.meaning.specs.Examples.{Copy, Flip, Twin, Sheet, sheet_log, sheet_out, times}
use Rattle.meaning.specs.Forest.{nil, node, beside, start_tag, end_tag, character, Stream, written}
use Rattle.meaning.specs.Held.{join, argument, instance, step, settled, held, after, handed, blanks, initial}
use Rattle.meaning.specs.Image.{rhs_forest, result, image}
use Rattle.meaning.specs.Rules.{Table}

-- a run from a fresh start: the steps of each event, the words held after each, and all that was handed out
pub record Run : Type 0 where
  pub table : Table
  pub given : List Event
  pub taken : List ℕ
  pub kept : List ℕ
  pub out : Stream

abbrev Agrees : Run → Type 0
Agrees r = (all_steps r.table r.given (initial r.table) ≡ r.taken) × (held_sizes r.table r.given (initial r.table) ≡ r.kept) × (handed r.table r.given (initial r.table) ≡ r.out)

abbrev AllAgree : List Run → Type 0
AllAgree [] = Unit {0}
AllAgree (r ∷ rs) = Agrees r × AllAgree rs

-- <a>x</a>, and <a></a><b></b>
ax : List Event
ax = start 0 ∷ char 120 ∷ end 0 ∷ finish ∷ []

ab : List Event
ab = start 0 ∷ end 0 ∷ start 1 ∷ end 1 ∷ finish ∷ []

runs : List Run
runs =
    -- example 1: Copy, empty log
    record { table = Copy; given = finish ∷ []; taken = 1 ∷ []; kept = 0 ∷ []; out = [] }
    -- example 2: Copy, <a>x</a>
    ∷ record { table = Copy; given = ax; taken = 4 ∷ 5 ∷ 3 ∷ 1 ∷ []; kept = 3 ∷ 3 ∷ 1 ∷ 0 ∷ []; out = start_tag 0 ∷ character 120 ∷ end_tag 0 ∷ [] }
    -- examples 3 and 4: Flip, <a></a><b></b>, with the steps of REQUIREMENTS B1.4
    ∷ record { table = Flip; given = ab; taken = 5 ∷ 5 ∷ 7 ∷ 7 ∷ 6 ∷ []; kept = 6 ∷ 4 ∷ 8 ∷ 6 ∷ 0 ∷ []; out = start_tag 1 ∷ end_tag 1 ∷ start_tag 0 ∷ end_tag 0 ∷ [] }
    -- REQUIREMENTS E: Flip, <a>x</a>
    ∷ record { table = Flip; given = ax; taken = 5 ∷ 7 ∷ 6 ∷ 5 ∷ []; kept = 6 ∷ 7 ∷ 5 ∷ 0 ∷ []; out = start_tag 0 ∷ character 120 ∷ end_tag 0 ∷ [] }
    -- the program's example: Sheet
    ∷ record {
      table = Sheet;
      given = log sheet_log;
      taken = 4 ∷ 6 ∷ 7 ∷ 8 ∷ 8 ∷ 6 ∷ 3 ∷ 6 ∷ 6 ∷ 3 ∷ 1 ∷ [];
      kept = 3 ∷ 5 ∷ 6 ∷ 6 ∷ 6 ∷ 3 ∷ 3 ∷ 5 ∷ 3 ∷ 1 ∷ 0 ∷ [];
      out = written sheet_out;
    }
    ∷ []

runs_agree : AllAgree runs
unfolding runs ax ab log events written cost rule_steps total call_steps all_steps size held_sizes handed settled step instance join argument held initial blanks
runs_agree = ((refl, refl, refl), ((refl, refl, refl), ((refl, refl, refl), ((refl, refl, refl), ((refl, refl, refl), tt)))))

-- example 3's output, by the recursive meaning
flip_image : image Flip (node 0 nil (node 1 nil nil)) ≡ node 1 nil (node 0 nil nil)
unfolding image result rhs_forest beside
flip_image = refl

sheet_image : image Sheet sheet_log ≡ sheet_out
unfolding image result rhs_forest beside
sheet_image = refl

-- example 5: Flip holds 2 + n words after n characters
flip_held : (size (after Flip (times 14 (char 120)) (initial Flip)) ≡ 16) × (size (after Flip (times 15 (char 120)) (initial Flip)) ≡ 17)
unfolding times size after step instance join argument held initial blanks
flip_held = (refl, refl)

-- example 6: Twin's steps at finish, after 14 and after 15 characters
twin_steps : (cost Twin finish (after Twin (times 14 (char 120)) (initial Twin)) ≡ 49151) × (cost Twin finish (after Twin (times 15 (char 120)) (initial Twin)) ≡ 98303)
unfolding times cost rule_steps total call_steps after step instance join argument held initial blanks
twin_steps = (refl, refl)

-- example 9: Copy, 64 nested start tags
copy_held : size (after Copy (times 64 (start 0)) (initial Copy)) ≡ 129
unfolding times size after step instance join argument held initial blanks
copy_held = refl
