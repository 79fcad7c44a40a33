-- Right sides of rules, and tables. Assumes nothing.
--
-- Document 002, definition 1, with document 01's items ("The rule table"): a right side is a sequence of items. Each
-- constructor but `done` is an item with the rest of the sequence behind it.
--
--   Source      what a call reads: x1, the children of what was matched, or x2, its siblings
--   Match       what a rule matches: the empty list, an element of that name, a character
--   Rhs         a right side: done              ε, nothing more
--                             element m b r     10 m b 1F: the element m with the content b
--                             matched b r       11 b 1F: the matched element with the content b
--                             letter c r        12 c: the character c
--                             matched_letter r   13: the matched character
--                             value j r         14 j: the carried value j, counted from 0
--                             call x q rs r     15 x q rs: a call of state q on x with the arguments rs
--   RArgs       the arguments of such a call
--   Table       for each state its number of carried values, and for each state and match a right side.
--               A missing rule has the right side `done` (definition 1: "an implicit rule q(p, ..) → ε").
use Rattle.std.specs.Prelude.{ℕ}

pub data Source : Type 0 where
  children : Source
  siblings : Source

pub data Match : Type 0 where
  on_empty : Match
  on_element : ℕ → Match
  on_character : Match

mutual
  pub data Rhs : Type 0 where
    done : Rhs
    element : ℕ → Rhs → Rhs → Rhs
    matched : Rhs → Rhs → Rhs
    letter : ℕ → Rhs → Rhs
    matched_letter : Rhs → Rhs
    value : ℕ → Rhs → Rhs
    call : Source → ℕ → RArgs → Rhs → Rhs

  pub data RArgs : Type 0 where
    no_arg : RArgs
    arg : Rhs → RArgs → RArgs

pub record Table : Type 0 where
  pub rank : ℕ → ℕ
  pub rule : ℕ → Match → Rhs
