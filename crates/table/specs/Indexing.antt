-- The index field by field, as the code makes it. Assumes nothing.
--
--   slots        which slots of its state a rule is for: from the first one until before the second
--   refused_as   number and place of a refusal
--   KnownRule    what a rule of an accepted table says: a state, a pattern, and a name, which is 0 but for pattern 01
--   noted_rule   a word of the index, which stands at k, when a rule is noted whose field begins at `at`: it goes where nothing
--                stands yet; `noted_name`, `noted_state`: when a name or a state is noted
--   noted        the same when a field is noted, refused_as by its tag
use Rattle.std.specs.Prelude.{◌≡◌, ◌<◌, ◌≤◌, ℕ, ◌+◌, ◌*◌, cond, ◌&&◌, List, eqb, leb, ltb, get_or}
use Rattle.table.specs.declared.refusal.Refused.{Refused}
use Rattle.table.specs.Tally.{refusal_number}
use Rattle.table.specs.Format.{Rule, rule_of, rule_holds}
use Rattle.table.specs.Index.{names_in, states_in}

-- the names' slots are 0 to 127; pattern 02 is for each name that has no rule of its own
abbrev pub slots : Rule → ℕ × ℕ
slots r = cond (eqb r.pattern 1) (r.name, r.name + 1) (cond (eqb r.pattern 2) (0, 128) (cond (eqb r.pattern 3) (128, 129) (129, 130)))

abbrev pub refused_as : Refused → ℕ × ℕ
refused_as r = (refusal_number r.why, r.at)

pub record KnownRule (r : Rule) : Type 0 where
  pub state : r.state < 64
  pub pattern : r.pattern ≤ 3
  pub name : r.name < 128
  pub unnamed : (r.pattern ≡ 1 → ⊥) → r.name ≡ 0

unfoldable pub noted_rule : Rule → (at k word : ℕ) → ℕ
noted_rule r at k word = cond (leb (194 + r.state * 130 + (slots r).0) k && (ltb k (194 + r.state * 130 + (slots r).1) && eqb word 0)) at word

unfoldable pub noted_name : List ℕ → (at k : ℕ) → ℕ
noted_name ix at k = cond (eqb k (66 + names_in ix)) at (cond (eqb k 0) (names_in ix + 1) (get_or ix k 0))

unfoldable pub noted_state : List ℕ → List ℕ → (k : ℕ) → ℕ
noted_state ix c k = cond (eqb k (2 + states_in ix)) (get_or c 0 0) (cond (eqb k 1) (states_in ix + 1) (get_or ix k 0))

unfoldable pub noted : List ℕ → (tag : ℕ) → List ℕ → (at k : ℕ) → ℕ
noted ix t c at k =
    cond (eqb t 1) (noted_name ix at k)
    (cond (eqb t 2) (noted_state ix c k)
    (cond (eqb t 3 && rule_holds c) (noted_rule (rule_of c) at k (get_or ix k 0))
    (get_or ix k 0)))
