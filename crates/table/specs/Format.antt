-- The rule table, byte for byte: its fields, and the check of refusals 1, 3 and 2. Assumes nothing.
--
-- Document 01, "The rule table", "Refusal numbers": "Table order: total length first, then field by field; within a field 1,
-- 3, 2." REQUIREMENTS B6 has the table of the cases.
--
--   Fields      bytes cut into fields: `field at tag content` with the place of its first byte; `stop at`, the bytes end where
--               a field would begin; `cut at`, fewer bytes are left than a field's head or its length asks for
--   fields      the fields of a table
--   Contents    what fields say: names, the carried values of each state, rules, and the least key that a further rule may have
--   key         a rule's place in the order "by state, then pattern, then name", as one number
--   refusal     the number of a field, 0 for none, after names, ranks and rules that came before it
--   added       the contents with one field more
--   Read        number and place of the check, and the contents read until then
--   check_fields the check of fields one after the other
--   read        the check of a table: 2 at 0 if it is too long
use Rattle.std.specs.Prelude.{ℕ, zero, suc, ◌+◌, ◌*◌, Bool, true, false, cond, not, ◌&&◌, ◌||◌, List, [], ◌∷◌, ◌++◌, eqb, leb, ltb, length, get_or, take, drop}
use Rattle.alphabet.specs.Classes.{name_start, name_part}
use Rattle.table.specs.Side.{side_number}

pub data Fields : Type 0 where
  stop : ℕ → Fields
  cut : ℕ → Fields
  field : (at tag : ℕ) (content : List ℕ) → Fields → Fields

-- "one tag byte, two length bytes (high byte first), then that many bytes": the length that stands behind a tag
abbrev pub length_at : List ℕ → ℕ
length_at bs = get_or bs 0 0 * 256 + get_or bs 1 0

-- the bytes bs behind a tag have a length, and as many bytes behind it
abbrev pub whole : List ℕ → Bool
whole bs = leb (2 + length_at bs) (length bs)

-- at: the place of the list's first byte. left: how many bytes still belong to the field before
unfoldable pub fields_from : List ℕ → (at left : ℕ) → Fields
fields_from [] at left = stop at
fields_from (b ∷ bs) at zero = elim (whole bs) [ true ↦ field at b (take (length_at bs) (drop 2 bs)) (fields_from bs (suc at) (2 + length_at bs)) | false ↦ cut at ]
fields_from (b ∷ bs) at (suc n) = fields_from bs (suc at) n

unfoldable pub fields : List ℕ → Fields
fields l = fields_from l 0 0

-- a rule: its state, pattern, name (0 but for pattern 01), and the bytes of its right side
pub record Rule : Type 0 where
  pub state : ℕ
  pub pattern : ℕ
  pub name : ℕ
  pub side : List ℕ

pub record Contents : Type 0 where
  pub names : List (List ℕ)
  pub ranks : List ℕ
  pub rules : List Rule
  pub next : ℕ

abbrev pub nothing : Contents
nothing = record { names = []; ranks = []; rules = []; next = 0 }

-- a rule field's content: state, pattern, the name of a pattern 01, and the right side
abbrev pub rule_of : List ℕ → Rule
rule_of c = record {
  state = get_or c 0 0;
  pattern = get_or c 1 0;
  name = cond (eqb (get_or c 1 0) 1) (get_or c 2 0) 0;
  side = drop (cond (eqb (get_or c 1 0) 1) 3 2) c;
}

abbrev pub key : Rule → ℕ
key r = r.state * 1024 + r.pattern * 256 + r.name

-- bytes of a name: "1 to 32 bytes: first a letter or `_`, then letters, digits, `-`, `_`, `.`"
unfoldable pub all_parts : List ℕ → Bool
all_parts [] = true
all_parts (b ∷ bs) = name_part b && all_parts bs

abbrev pub is_name : List ℕ → Bool
is_name [] = false
is_name (b ∷ bs) = name_start b && (all_parts bs && ltb (length bs) 32)

unfoldable pub same_bytes : List ℕ → List ℕ → Bool
same_bytes [] [] = true
same_bytes [] (c ∷ cs) = false
same_bytes (b ∷ bs) [] = false
same_bytes (b ∷ bs) (c ∷ cs) = eqb b c && same_bytes bs cs

-- the number of a name among names, how many there are if it is none of them
abbrev pub counted : Bool → ℕ → ℕ
counted true n = 0
counted false n = suc n

unfoldable pub number_of : List (List ℕ) → List ℕ → ℕ
number_of [] b = 0
number_of (a ∷ as₁) b = counted (same_bytes a b) (number_of as₁ b)

abbrev pub none_yet : List ℕ → Bool
none_yet [] = true
none_yet (x ∷ xs) = false

-- "a name; numbered from 0; no name twice", before any state; 129th name
unfoldable pub name_refusal : List (List ℕ) → List ℕ → List ℕ → ℕ
name_refusal names ranks c =
    cond (none_yet ranks && (is_name c && eqb (number_of names c) (length names)))
    (cond (ltb (length names) 128) 0 2)
    1

-- "one byte: carried values of a state, 0 to 4", before any rule; 65th state
unfoldable pub state_refusal : List ℕ → ℕ → List ℕ → ℕ
state_refusal ranks next c =
    cond (eqb next 0 && (eqb (length c) 1 && leb (get_or c 0 0) 4))
    (cond (ltb (length ranks) 64) 0 2)
    1

-- "a rule's holds at least state, pattern and pattern 01's name", after some state
abbrev pub rule_holds : List ℕ → Bool
rule_holds c = ltb 1 (length c) && (not (eqb (get_or c 1 0) 1) || ltb 2 (length c))

-- "unknown .. state, name, .. or pattern"; "rules not increasing"
abbrev pub rule_known : ℕ → ℕ → ℕ → Rule → Bool
rule_known names states next r = ltb r.state states && (leb r.pattern 3 && ((not (eqb r.pattern 1) || ltb r.name names) && leb next (key r)))

unfoldable pub rule_refusal : ℕ → List ℕ → ℕ → List ℕ → ℕ
rule_refusal names ranks next c =
    cond (not (none_yet ranks) && rule_holds c)
    (cond (rule_known names (length ranks) next (rule_of c))
    (side_number names ranks (rule_of c).pattern (get_or ranks (rule_of c).state 0) (rule_of c).side)
    3)
    1

-- "length 0; nothing follows", after some state
unfoldable pub end_refusal : List ℕ → List ℕ → ℕ
end_refusal ranks c = cond (not (none_yet ranks) && eqb (length c) 0) 0 1

unfoldable pub refusal : List (List ℕ) → List ℕ → ℕ → (tag : ℕ) → List ℕ → ℕ
refusal names ranks next tag c =
    cond (eqb tag 1) (name_refusal names ranks c)
    (cond (eqb tag 2) (state_refusal ranks next c)
    (cond (eqb tag 3) (rule_refusal (length names) ranks next c)
    (cond (eqb tag 4) (end_refusal ranks c)
    1)))

unfoldable pub added : Contents → (tag : ℕ) → List ℕ → Contents
added C tag c =
    cond (eqb tag 1) (record { names = C.names ++ (c ∷ []); ranks = C.ranks; rules = C.rules; next = C.next })
    (cond (eqb tag 2) (record { names = C.names; ranks = C.ranks ++ (get_or c 0 0 ∷ []); rules = C.rules; next = C.next })
    (cond (eqb tag 3) (record { names = C.names; ranks = C.ranks; rules = C.rules ++ (rule_of c ∷ []); next = suc (key (rule_of c)) })
    C))

pub record Read : Type 0 where
  pub number : ℕ
  pub place : ℕ
  pub contents : Contents

-- behind the end field nothing may follow
abbrev pub behind_end : Contents → Fields → Read
behind_end C (stop at) = record { number = 0; place = at; contents = C }
behind_end C (cut at) = record { number = 1; place = at; contents = C }
behind_end C (field at tag c fs) = record { number = 1; place = at; contents = C }

unfoldable pub check_fields : Contents → Fields → Read
check_fields C (stop at) = record { number = 1; place = at; contents = C }
check_fields C (cut at) = record { number = 1; place = at; contents = C }
check_fields C (field at tag c fs) =
    elim (refusal C.names C.ranks C.next tag c) [
      | zero ↦ elim (eqb tag 4) [ true ↦ behind_end C fs | false ↦ check_fields (added C tag c) fs ]
      | suc n ↦ record { number = suc n; place = at; contents = C }
    ]

unfoldable pub read : List ℕ → Read
read l = elim (leb (length l) 32768) [ true ↦ check_fields nothing (fields l) | false ↦ record { number = 2; place = 0; contents = nothing } ]
