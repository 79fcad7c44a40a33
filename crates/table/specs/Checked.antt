-- The check of a table field by field, as the code does it. Assumes nothing.
--
--   rule_meant    the rule of `Format` that a rule of the code is
--   names_read    the names that were read so far; `ranks_read`: the carried values of the states
--   names_with, base_with, states_with, next_with   the numbers of parts with a field more, which begins at a place
--   Has           parts are those of a table: its names, the carried values of its states, and the least further key
--   answer        number and place of an answer for a table of so many bytes
--   front_field   the field that bytes begin with: its tag, its content, and the bytes behind it; nothing where they are too few
use Rattle.table.specs.Format as format
use Rattle.std.specs.Prelude.{◌≡◌}
use Rattle.table.specs.declared.rule.Rule as code
use Rattle.table.specs.Names.{names_at, ranks_at}
use Rattle.table.specs.declared.parts.Parts.{Parts}
use Rattle.std.specs.Prelude.{ℕ, suc, ◌+◌, ◌*◌, cond, ◌&&◌, eqb, List, [], ◌∷◌, leb, length, take, drop, Option, None, Some, Result, Ok, Err}
use Rattle.table.specs.Tally.{refusal_number}
use Rattle.table.specs.declared.refusal.Refused.{Refused}

-- "one tag byte, two length bytes (high byte first), then that many bytes"
abbrev pub cut_field : (b n : ℕ) → List ℕ → Option (ℕ × List ℕ × List ℕ)
cut_field b n k = cond (leb n (length k)) (Some (b, take n k, drop n k)) None

abbrev pub front_field : List ℕ → Option (ℕ × List ℕ × List ℕ)
front_field [] = None
front_field (b ∷ []) = None
front_field (b ∷ h ∷ []) = None
front_field (b ∷ h ∷ l ∷ k) = cut_field b (h * 256 + l) k

abbrev pub rule_meant : code.Rule → format.Rule
rule_meant r = record { state = r.state; pattern = r.pattern; name = r.name; side = r.side.now }

abbrev pub names_read : Parts → List (List ℕ)
names_read s = names_at s.table.now 0 s.names

abbrev pub ranks_read : Parts → List ℕ
ranks_read s = ranks_at (drop s.base s.table.now) 0 s.states

abbrev pub names_with : (tag n : ℕ) → ℕ
names_with tag n = cond (eqb tag 1) (n + 1) n

abbrev pub base_with : (tag at s b : ℕ) → ℕ
base_with tag at s b = cond (eqb tag 2 && eqb s 0) at b

abbrev pub states_with : (tag s : ℕ) → ℕ
states_with tag s = cond (eqb tag 2) (s + 1) s

abbrev pub next_with : ℕ → List ℕ → ℕ → ℕ
next_with tag c k = cond (eqb tag 3 && format.rule_holds c) (suc (format.key (format.rule_of c))) k

abbrev pub answer : ℕ → Result Parts Refused → ℕ × ℕ
answer n (Ok p) = (0, n)
answer n (Err r) = (refusal_number r.why, r.at)

pub record Has (l : List ℕ) (p : Parts) : Type 0 where
  pub table : p.table.now ≡ l
  pub names : names_read p ≡ (format.read l).contents.names
  pub ranks : ranks_read p ≡ (format.read l).contents.ranks
  pub next : p.next ≡ (format.read l).contents.next
