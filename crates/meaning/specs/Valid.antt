-- Which right sides and held expressions belong to a table. Assumes nothing.
--
-- Document 01, refusal 3 (what a right side may mention) and refusal 13: "a held expression for this table, .. levels 1 to
-- open elements + 1". Tags need not balance: 13 lists no balance.
--
--   Vocabulary  what a table lets its expressions mention: so many names, so many states with their carried values, and the
--               characters that are leaves
--   Count       an argument list of that length; `RCount` the same of a right side's
--   Valid       a held expression of the vocabulary, with d elements open: known names, states and leaf characters, as many
--               arguments as the state has carried values, and no call waits for more than d end tags, at any nesting
--   RhsValid    a right side of the vocabulary, under a pattern, in a state with n carried values: known names, characters,
--               states and values, as many arguments as the called state has values; the matched element only under an
--               element, the matched character only under a character; children only of an element, siblings of either
--   Known       an event of the vocabulary
--   Proper      each right side of the table is one of the vocabulary
use Rattle.std.specs.Prelude.{ℕ, zero, suc, ◌≤◌, ◌<◌, ◌≡◌, Bool, T}
use Rattle.meaning.specs.Rules.{Source, children, siblings, Match, on_empty, on_element, on_character, Rhs, RArgs, done, element, matched, letter, matched_letter, value, call, no_arg, arg, Table}
use Rattle.meaning.specs.Event.{Event, start, char, end, finish}
use Rattle.meaning.specs.Held.{Expr, Args, ε, opening, closing, chr, wait, ∅, also}

pub record Vocabulary : Type 0 where
  pub names : ℕ
  pub states : ℕ
  pub rank : ℕ → ℕ
  pub is_leaf : ℕ → Bool

abbrev pub Count : Args → ℕ → Type 0
Count ∅ zero = Unit {0}
Count ∅ (suc n) = ⊥
Count (also e es) zero = ⊥
Count (also e es) (suc n) = Count es n

abbrev pub RCount : RArgs → ℕ → Type 0
RCount no_arg zero = Unit {0}
RCount no_arg (suc n) = ⊥
RCount (arg r rs) zero = ⊥
RCount (arg r rs) (suc n) = RCount rs n

module _ (K : Vocabulary) (d : ℕ) where
  abbrev mutual
    pub Valid : Expr → Type 0
    Valid ε = Unit {0}
    Valid (opening n e) = (n < K.names) × Valid e
    Valid (closing n e) = (n < K.names) × Valid e
    Valid (chr c e) = T (K.is_leaf c) × Valid e
    Valid (wait q i es e) = (q < K.states) × (i ≤ d) × Count es (K.rank q) × ValidAll es × Valid e

    pub ValidAll : Args → Type 0
    ValidAll ∅ = Unit {0}
    ValidAll (also e es) = Valid e × ValidAll es

abbrev pub has_element : Match → Type 0
has_element on_empty = ⊥
has_element (on_element n) = Unit {0}
has_element on_character = ⊥

abbrev pub has_character : Match → Type 0
has_character on_empty = ⊥
has_character (on_element n) = ⊥
has_character on_character = Unit {0}

abbrev pub has_source : Match → Source → Type 0
has_source on_empty x = ⊥
has_source (on_element n) x = Unit {0}
has_source on_character children = ⊥
has_source on_character siblings = Unit {0}

module _ (K : Vocabulary) (p : Match) (n : ℕ) where
  abbrev mutual
    pub RhsValid : Rhs → Type 0
    RhsValid done = Unit {0}
    RhsValid (element m b r) = (m < K.names) × RhsValid b × RhsValid r
    RhsValid (matched b r) = has_element p × RhsValid b × RhsValid r
    RhsValid (letter c r) = T (K.is_leaf c) × RhsValid r
    RhsValid (matched_letter r) = has_character p × RhsValid r
    RhsValid (value j r) = (j < n) × RhsValid r
    RhsValid (call x q rs r) = has_source p x × (q < K.states) × RCount rs (K.rank q) × RArgsValid rs × RhsValid r

    pub RArgsValid : RArgs → Type 0
    RArgsValid no_arg = Unit {0}
    RArgsValid (arg r rs) = RhsValid r × RArgsValid rs

abbrev pub Known : Vocabulary → Event → Type 0
Known K (start n) = n < K.names
Known K (char c) = T (K.is_leaf c)
Known K (end n) = Unit {0}
Known K finish = Unit {0}

pub record Proper (K : Vocabulary) (M : Table) : Type 0 where
  pub ranks : (q : ℕ) → M.rank q ≡ K.rank q
  pub rules : (q : ℕ) (m : Match) → RhsValid K m (K.rank q) (M.rule q m)
