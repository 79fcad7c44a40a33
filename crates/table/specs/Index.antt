-- The index of a table: where its parts stand, so that nothing is searched for while a log is read. Assumes nothing.
--
-- 16-bit words: how many names, how many states, the carried values of each of 64 states, where the field of each of 128 names
-- begins, and for each state 130 places: where the field of the rule begins for each of 128 names, for a character (slot 128)
-- and for the empty list (slot 129); 0 where there is no rule, since no rule's field can stand at 0.
--
--   index_words  how many words
--   names_in, states_in, rank_in, place_in, rule_in   what stands in an index
--   vocab       the vocabulary of `meaning` that an index has: what expressions may mention
--   slot_of      the slot of what is matched
--   side_from, side_to   where the right side of the rule whose field begins at a place begins and ends
--   Indexed     the index is that of the table l, and l is accepted
use Rattle.std.specs.Prelude.{ℕ, zero, suc, ◌+◌, ◌*◌, ◌≤◌, ◌<◌, ◌≡◌, cond, List, [], eqb, ltb, length, get_or}
use Rattle.std.proofs.Math.Seq.{slice}
use Rattle.alphabet.specs.Classes.{is_leaf}
use Rattle.meaning.specs.Rules.{Match, on_empty, on_element, on_character}
use Rattle.meaning.specs.Valid.{Vocabulary}
use Rattle.table.specs.Format.{Contents, read}
use Rattle.table.specs.Names.{name_at}
use Rattle.table.specs.Rules.{side_for}

abbrev pub index_words : ℕ
index_words = 8514

abbrev pub names_in : List ℕ → ℕ
names_in ix = get_or ix 0 0

abbrev pub states_in : List ℕ → ℕ
states_in ix = get_or ix 1 0

abbrev pub rank_in : List ℕ → ℕ → ℕ
rank_in ix q = cond (ltb q 64) (get_or ix (2 + q) 0) 0

abbrev pub place_in : List ℕ → ℕ → ℕ
place_in ix n = get_or ix (66 + n) 0

abbrev pub rule_in : List ℕ → ℕ → ℕ → ℕ
rule_in ix q slot = get_or ix (194 + q * 130 + slot) 0

abbrev pub vocab : List ℕ → Vocabulary
vocab ix = record { names = names_in ix; states = states_in ix; rank = rank_in ix; is_leaf = is_leaf }

abbrev pub slot_of : Match → ℕ
slot_of (on_element n) = n
slot_of on_character = 128
slot_of on_empty = 129

-- "state, pattern, right side", with a name after pattern 01; a place 0 is no rule and has an empty right side
abbrev pub side_from : List ℕ → ℕ → ℕ
side_from l zero = 0
side_from l (suc at) = suc at + cond (eqb (get_or l (suc at + 4) 0) 1) 6 5

abbrev pub side_to : List ℕ → ℕ → ℕ
side_to l zero = 0
side_to l (suc at) = suc at + 3 + (get_or l (suc at + 1) 0 * 256 + get_or l (suc at + 2) 0)

-- a rule's place: 0, and there is no rule; or a place in the table, and from there on the rule's field
pub record RuleAt (l : List ℕ) (at : ℕ) (side : List ℕ) : Type 0 where
  pub order : side_from l at ≤ side_to l at
  pub within : side_to l at ≤ length l
  pub bytes : slice (side_from l at) (side_to l at) l ≡ side

-- a name's place
pub record NameAt (l : List ℕ) (at : ℕ) (name : List ℕ) : Type 0 where
  pub within : at + 3 + get_or l (at + 2) 0 ≤ length l
  pub long : get_or l (at + 2) 0 ≤ 32
  pub bytes : name_at l at ≡ name

abbrev pub known : Contents → Match → Type 0
known C on_empty = Unit {0}
known C (on_element n) = n < length C.names
known C on_character = Unit {0}

pub record Indexed (l ix : List ℕ) : Type 0 where
  pub accepted : (read l).number ≡ 0
  pub words : length ix ≡ index_words
  pub names : names_in ix ≡ length (read l).contents.names
  pub states : states_in ix ≡ length (read l).contents.ranks
  pub rank : (q : ℕ) → rank_in ix q ≡ get_or (read l).contents.ranks q 0
  pub place : (n : ℕ) → n < length (read l).contents.names → NameAt l (place_in ix n) (get_or (read l).contents.names n [])
  pub rule : (q : ℕ) (m : Match) → q < length (read l).contents.ranks → known (read l).contents m → RuleAt l (rule_in ix q (slot_of m)) (side_for (read l).contents.rules q m)
