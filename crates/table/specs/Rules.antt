-- The rules that a table's bytes spell: the table of `meaning`. Assumes nothing.
--
--   rhs_of       the right side that items spell: the i-th, where each one before it ends with a 1F of its own
--   side_of      the right side that bytes spell
--   picked      the bytes of the rule for a state, a pattern and a name, where there is one
--   side_for     the bytes of the rule for a state and what is matched: an element by its own 01 rule, "any element with no 01
--               rule in that state" by the 02 rule; "A missing rule has an empty right side"
--   table_of     the table of `meaning` that contents spell; `rules_of`, that a table's bytes spell
--   vocabulary  what the table lets its expressions mention
--   largest     R, "the largest size in the table"; 0 where there is no rule
--   IsLinear    demand 3's class: "each read the children at most once, the siblings at most once and each carried value at most once"
--   Owes        no more than 8 ends are owed at any point of a right side, with d owed before it
use Rattle.std.specs.Prelude.{ℕ, zero, suc, ◌+◌, max, ◌≤◌, ◌<◌, Bool, true, false, ◌&&◌, List, [], ◌∷◌, eqb, length, get_or}
use Rattle.std.proofs.Math.Option.{Option, none, some}
use Rattle.alphabet.specs.Classes.{is_leaf}
use Rattle.meaning.specs.Rules.{Match, on_empty, on_element, on_character, Rhs, RArgs, done, element, matched, letter, matched_letter, value, call, no_arg, arg, Table}
use Rattle.meaning.specs.Count.{rhs_size}
use Rattle.meaning.specs.Linear.{Linear}
use Rattle.meaning.specs.Valid.{Vocabulary}
use Rattle.table.specs.Side.{Item, item10, item11, item12, item13, item14, item15, item1F, items, first}
use Rattle.table.specs.Format.{Rule, Contents, read}

-- n arguments, from the right sides f 0, f 1, ..
unfoldable pub args_of : ℕ → (ℕ → Rhs) → RArgs
args_of zero f = no_arg
args_of (suc n) f = arg (f 0) (args_of n (λ i. f (suc i)))

unfoldable pub rhs_of : List ℕ → List Item → ℕ → Rhs
rhs_of ranks [] i = done
rhs_of ranks (item10 m ∷ k) zero = element m (rhs_of ranks k 0) (rhs_of ranks k 1)
rhs_of ranks (item10 m ∷ k) (suc i) = rhs_of ranks k (suc (suc i))
rhs_of ranks (item11 ∷ k) zero = matched (rhs_of ranks k 0) (rhs_of ranks k 1)
rhs_of ranks (item11 ∷ k) (suc i) = rhs_of ranks k (suc (suc i))
rhs_of ranks (item12 c ∷ k) zero = letter c (rhs_of ranks k 0)
rhs_of ranks (item12 c ∷ k) (suc i) = rhs_of ranks k (suc i)
rhs_of ranks (item13 ∷ k) zero = matched_letter (rhs_of ranks k 0)
rhs_of ranks (item13 ∷ k) (suc i) = rhs_of ranks k (suc i)
rhs_of ranks (item14 j ∷ k) zero = value j (rhs_of ranks k 0)
rhs_of ranks (item14 j ∷ k) (suc i) = rhs_of ranks k (suc i)
rhs_of ranks (item15 x q ∷ k) zero = call x q (args_of (get_or ranks q 0) (λ i. rhs_of ranks k i)) (rhs_of ranks k (get_or ranks q 0))
rhs_of ranks (item15 x q ∷ k) (suc i) = rhs_of ranks k (suc (get_or ranks q 0 + i))
rhs_of ranks (item1F ∷ k) zero = done
rhs_of ranks (item1F ∷ k) (suc i) = rhs_of ranks k i

abbrev pub known : Option (List Item) → List Item
known none = []
known (some is) = is

unfoldable pub side_of : List ℕ → List ℕ → Rhs
side_of ranks bs = rhs_of ranks (known (items bs first)) 0

abbrev pub is_rule : (q p n : ℕ) → Rule → Bool
is_rule q p n r = eqb r.state q && (eqb r.pattern p && eqb r.name n)

unfoldable pub picked : List Rule → (q p n : ℕ) → Option (List ℕ)
picked [] q p n = none
picked (r ∷ rs) q p n = elim (is_rule q p n r) [ true ↦ some r.side | false ↦ picked rs q p n ]

-- the first, or else the second; or else nothing
abbrev pub or_else : Option (List ℕ) → Option (List ℕ) → Option (List ℕ)
or_else none o = o
or_else (some bs) o = some bs

abbrev pub or_empty : Option (List ℕ) → List ℕ
or_empty none = []
or_empty (some bs) = bs

abbrev pub rule_for : List Rule → ℕ → Match → Option (List ℕ)
rule_for rs q on_empty = picked rs q 0 0
rule_for rs q (on_element n) = or_else (picked rs q 1 n) (picked rs q 2 0)
rule_for rs q on_character = picked rs q 3 0

abbrev pub side_for : List Rule → ℕ → Match → List ℕ
side_for rs q m = or_empty (rule_for rs q m)

unfoldable pub table_of : Contents → Table
table_of C = record { rank = λ q. get_or C.ranks q 0; rule = λ q m. side_of C.ranks (side_for C.rules q m) }

unfoldable pub rules_of : List ℕ → Table
rules_of l = table_of (read l).contents

abbrev pub vocabulary : Contents → Vocabulary
vocabulary C = record { names = length C.names; states = length C.ranks; rank = λ q. get_or C.ranks q 0; is_leaf = is_leaf }

unfoldable pub largest_of : List ℕ → List Rule → ℕ
largest_of ranks [] = 0
largest_of ranks (r ∷ rs) = max (rhs_size (side_of ranks r.side)) (largest_of ranks rs)

unfoldable pub largest : Contents → ℕ
largest C = largest_of C.ranks C.rules

abbrev pub IsLinear : List ℕ → Type 0
IsLinear l = Linear (rules_of l)

unfoldable pub count : RArgs → ℕ
count no_arg = 0
count (arg r rs) = suc (count rs)

abbrev mutual
  pub Owes : ℕ → Rhs → Type 0
  Owes d done = Unit {0}
  Owes d (element m b r) = (d < 8) × Owes (suc d) b × Owes d r
  Owes d (matched b r) = (d < 8) × Owes (suc d) b × Owes d r
  Owes d (letter c r) = Owes d r
  Owes d (matched_letter r) = Owes d r
  Owes d (value j r) = Owes d r
  Owes d (call x q rs r) = (count rs + d ≤ 8) × OwesAll d rs × Owes d r

  -- while an argument is read, its own end and those of the arguments behind it are owed
  pub OwesAll : ℕ → RArgs → Type 0
  OwesAll d no_arg = Unit {0}
  OwesAll d (arg r rs) = Owes (suc (count rs + d)) r × OwesAll d rs
