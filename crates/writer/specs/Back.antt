-- The way back: what the reader reads of what is written. Assumes nothing.
--
--   event_in   the event of a token; `event_read`: in the reader's words; `found`: the reader's answer, all the token's bytes taken
--   Named      names of a table: each is a name, and no two are the same
--   Sayable    a token with one of the table's names, or with a leaf character; `Known`: a forest of these
--   Reads      the events that are read of bytes, one after the other, until no byte is left
use Rattle.std.specs.Prelude.{ℕ, suc, max, ◌≡◌, ◌<◌, List, [], ◌∷◌, length, get_or, drop, T}
use Rattle.std.proofs.Math.Option.{some}
use Rattle.alphabet.specs.Classes.{is_leaf}
use Rattle.meaning.specs.Event.{Event, start, char, end}
use Rattle.meaning.specs.Forest.{Forest, nil, node, leaf, Token, start_tag, end_tag, character}
use Rattle.reader.specs.declared.found.Event as read
use Rattle.reader.specs.declared.found.Event.TheVariants.{Start, End, Character}
use Rattle.reader.specs.declared.found.Found.{Found}
use Rattle.reader.specs.Read.{event_of, taken, read_event}
use Rattle.table.specs.Format.{is_name, number_of}
use Rattle.writer.specs.Bytes.{bytes_of}

abbrev pub event_in : Token → Event
event_in (start_tag n) = start n
event_in (end_tag n) = end n
event_in (character c) = char c

abbrev pub event_read : Token → read.Event
event_read (start_tag n) = Start n
event_read (end_tag n) = End n
event_read (character c) = Character c

abbrev pub found : List (List ℕ) → Token → Found
found names t = record { event = event_read t; taken = length (bytes_of names t) }

pub record Named (names : List (List ℕ)) : Type 0 where
  pub each : (n : ℕ) → n < length names → T (is_name (get_or names n []))
  pub once : (n : ℕ) → n < length names → number_of names (get_or names n []) ≡ n

abbrev pub Sayable : List (List ℕ) → Token → Type 0
Sayable names (start_tag n) = n < length names
Sayable names (end_tag n) = n < length names
Sayable names (character c) = T (is_leaf c)

abbrev pub Known : List (List ℕ) → Forest → Type 0
Known names nil = Unit {0}
Known names (node n k s) = (n < length names) × Known names k × Known names s
Known names (leaf c s) = T (is_leaf c) × Known names s

abbrev pub Reads : List (List ℕ) → List ℕ → List Event → Type 0
Reads names bs [] = bs ≡ []
Reads names bs (v ∷ vs) = (event_of (read_event names bs) ≡ some v) × Reads names (drop (taken (read_event names bs)) bs) vs

unfoldable pub nests : Forest → ℕ
nests nil = 0
nests (node n k s) = max (suc (nests k)) (nests s)
nests (leaf c s) = nests s
