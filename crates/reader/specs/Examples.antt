-- The table of 4 against 11 as cases: REQUIREMENTS B4, with two names in the table, a and 32 times b. Assumes nothing.
--
--   Case            bytes with the number, the event and the bytes taken that the answer must have
--   refused         a case without event; `gives`: one with an event
--   cut_cases       bytes that end inside an event, or none: 11
--   bad_cases       bytes that begin no event: 4
--   unknown_cases   whole tags alone whose name is not in the table: 5
--   taken_cases     text, tags and the five references, some with more behind them: the first event is taken
use Rattle.std.specs.Prelude.{ℕ, List, [], ◌∷◌, ◌++◌, replicate}
use Rattle.std.proofs.Math.Option.{Option, none, some}
use Rattle.meaning.specs.Event.{Event, start, char, end}

pub record Case : Type 0 where
  pub bytes : List ℕ
  pub number : ℕ
  pub event : Option Event
  pub taken : ℕ

abbrev pub refused : ℕ → List ℕ → Case
refused n bs = record { bytes = bs; number = n; event = none; taken = 0 }

abbrev pub gives : Event → ℕ → List ℕ → Case
gives v k bs = record { bytes = bs; number = 0; event = some v; taken = k }

abbrev pub two_names : List (List ℕ)
two_names = (97 ∷ []) ∷ replicate 32 98 ∷ []

-- the input ends inside an event, or there are no bytes
unfoldable pub cut_cases : List (List ℕ)
cut_cases =
    []
    -- < </ <a </a <zz, and < with 32 name bytes
    ∷ (60 ∷ []) ∷ (60 ∷ 47 ∷ []) ∷ (60 ∷ 97 ∷ []) ∷ (60 ∷ 47 ∷ 97 ∷ []) ∷ (60 ∷ 122 ∷ 122 ∷ []) ∷ (60 ∷ replicate 32 97) ∷ (60 ∷ 47 ∷ replicate 32 97)
    -- & &l &a &am &ap &q &qu &gt
    ∷ (38 ∷ []) ∷ (38 ∷ 108 ∷ []) ∷ (38 ∷ 97 ∷ []) ∷ (38 ∷ 97 ∷ 109 ∷ []) ∷ (38 ∷ 97 ∷ 112 ∷ []) ∷ (38 ∷ 113 ∷ []) ∷ (38 ∷ 113 ∷ 117 ∷ []) ∷ (38 ∷ 103 ∷ 116 ∷ [])
    ∷ []

-- the bytes begin no event
unfoldable pub bad_cases : List (List ℕ)
bad_cases =
    -- <1 <> </> < a </1 <a< and <a with a space
    (60 ∷ 49 ∷ []) ∷ (60 ∷ 62 ∷ []) ∷ (60 ∷ 47 ∷ 62 ∷ []) ∷ (60 ∷ 32 ∷ 97 ∷ []) ∷ (60 ∷ 47 ∷ 49 ∷ []) ∷ (60 ∷ 97 ∷ 60 ∷ []) ∷ (60 ∷ 97 ∷ 32 ∷ [])
    -- < with 33 name bytes, ended or not; the same of an end tag
    ∷ (60 ∷ replicate 33 97) ∷ (60 ∷ replicate 33 97 ++ (62 ∷ [])) ∷ (60 ∷ 47 ∷ replicate 33 97) ∷ (60 ∷ 47 ∷ replicate 33 97 ++ (62 ∷ []))
    -- &z &gtx &; &# and &lt with a space
    ∷ (38 ∷ 122 ∷ []) ∷ (38 ∷ 103 ∷ 116 ∷ 120 ∷ []) ∷ (38 ∷ 59 ∷ []) ∷ (38 ∷ 35 ∷ []) ∷ (38 ∷ 108 ∷ 116 ∷ 32 ∷ [])
    -- > 0 127 128 255
    ∷ (62 ∷ []) ∷ (0 ∷ []) ∷ (127 ∷ []) ∷ (128 ∷ []) ∷ (255 ∷ [])
    -- <! <? <a/ <a/>
    ∷ (60 ∷ 33 ∷ []) ∷ (60 ∷ 63 ∷ []) ∷ (60 ∷ 97 ∷ 47 ∷ []) ∷ (60 ∷ 97 ∷ 47 ∷ 62 ∷ [])
    ∷ []

-- a whole tag whose name is not in the table: <zz> </zz>, and 32 bytes
unfoldable pub unknown_cases : List (List ℕ)
unknown_cases = (60 ∷ 122 ∷ 122 ∷ 62 ∷ []) ∷ (60 ∷ 47 ∷ 122 ∷ 122 ∷ 62 ∷ []) ∷ (60 ∷ replicate 32 97 ++ (62 ∷ [])) ∷ []

unfoldable pub taken_cases : List Case
taken_cases =
    -- x, alone, and with a bad byte, an event or a cut one behind it
    gives (char 120) 1 (120 ∷ []) ∷ gives (char 120) 1 (120 ∷ 0 ∷ []) ∷ gives (char 120) 1 (120 ∷ 60 ∷ 97 ∷ 62 ∷ []) ∷ gives (char 120) 1 (120 ∷ 38 ∷ 113 ∷ [])
    -- <a> </a>, with more behind; a name of 32 bytes
    ∷ gives (start 0) 3 (60 ∷ 97 ∷ 62 ∷ 60 ∷ []) ∷ gives (end 0) 4 (60 ∷ 47 ∷ 97 ∷ 62 ∷ 255 ∷ []) ∷ gives (start 1) 34 (60 ∷ replicate 32 98 ++ (62 ∷ [])) ∷ gives (end 1) 35 (60 ∷ 47 ∷ replicate 32 98 ++ (62 ∷ []))
    -- the five references
    ∷ gives (char 60) 4 (38 ∷ 108 ∷ 116 ∷ 59 ∷ 59 ∷ []) ∷ gives (char 62) 4 (38 ∷ 103 ∷ 116 ∷ 59 ∷ []) ∷ gives (char 38) 5 (38 ∷ 97 ∷ 109 ∷ 112 ∷ 59 ∷ []) ∷ gives (char 34) 6 (38 ∷ 113 ∷ 117 ∷ 111 ∷ 116 ∷ 59 ∷ []) ∷ gives (char 39) 6 (38 ∷ 97 ∷ 112 ∷ 111 ∷ 115 ∷ 59 ∷ [])
    -- tab, line feed, carriage return, space, ~, and both quotes as they are
    ∷ gives (char 9) 1 (9 ∷ []) ∷ gives (char 10) 1 (10 ∷ []) ∷ gives (char 13) 1 (13 ∷ 10 ∷ []) ∷ gives (char 32) 1 (32 ∷ []) ∷ gives (char 126) 1 (126 ∷ []) ∷ gives (char 34) 1 (34 ∷ []) ∷ gives (char 39) 1 (39 ∷ [])
    ∷ []
