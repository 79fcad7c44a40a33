-- The nesting as cases, with the two names a and b in the table: REQUIREMENTS B5; document 01's examples 7 and 9. Assumes nothing.
--
--   Case          the open names, the innermost first; bytes that are offered; the number that the answer must have
--   offer_cases   one offer
--   Log, logs     events from nothing open on, and the number that the answer to them must have
use Rattle.std.specs.Prelude.{ℕ, List, [], ◌∷◌, ◌++◌, replicate, Result, Ok, Err}
use Rattle.meaning.specs.Event.{Event, start, char, end, finish}
use Rattle.reader.specs.declared.found.Refusal.{Refusal}
use Rattle.reader.specs.Read.{refusal_number}

abbrev pub nest_number : Result (List ℕ) Refusal → ℕ
nest_number (Ok open₁) = 0
nest_number (Err r) = refusal_number r

abbrev pub a_and_b : List (List ℕ)
a_and_b = (97 ∷ []) ∷ (98 ∷ []) ∷ []

pub record Case : Type 0 where
  pub before : List ℕ
  pub bytes : List ℕ
  pub number : ℕ

abbrev pub case : List ℕ → List ℕ → ℕ → Case
case o bs n = record { before = o; bytes = bs; number = n }

-- a 64 times
abbrev pub full : List ℕ
full = replicate 64 0

unfoldable pub offer_cases : List Case
offer_cases =
    -- <a> with nothing, a and 63 times a open; x; </a> and </b>, where they end the innermost
    case [] (60 ∷ 97 ∷ 62 ∷ []) 0 ∷ case (0 ∷ []) (60 ∷ 97 ∷ 62 ∷ []) 0 ∷ case (replicate 63 0) (60 ∷ 97 ∷ 62 ∷ []) 0 ∷ case [] (120 ∷ []) 0 ∷ case full (120 ∷ []) 0
    ∷ case (0 ∷ []) (60 ∷ 47 ∷ 97 ∷ 62 ∷ []) 0 ∷ case (1 ∷ 0 ∷ []) (60 ∷ 47 ∷ 98 ∷ 62 ∷ []) 0 ∷ case full (60 ∷ 47 ∷ 97 ∷ 62 ∷ []) 0
    -- </a> with nothing open, </b> where a is the innermost
    ∷ case [] (60 ∷ 47 ∷ 97 ∷ 62 ∷ []) 6 ∷ case (0 ∷ []) (60 ∷ 47 ∷ 98 ∷ 62 ∷ []) 6 ∷ case (0 ∷ 1 ∷ []) (60 ∷ 47 ∷ 98 ∷ 62 ∷ []) 6 ∷ case full (60 ∷ 47 ∷ 98 ∷ 62 ∷ []) 6
    -- the 65th
    ∷ case full (60 ∷ 97 ∷ 62 ∷ []) 7 ∷ case full (60 ∷ 98 ∷ 62 ∷ []) 7
    -- </z> and <z>: 5 comes first
    ∷ case [] (60 ∷ 47 ∷ 122 ∷ 62 ∷ []) 5 ∷ case (0 ∷ []) (60 ∷ 47 ∷ 122 ∷ 62 ∷ []) 5 ∷ case full (60 ∷ 122 ∷ 62 ∷ []) 5
    -- </a and <1: so do 11 and 4
    ∷ case [] (60 ∷ 47 ∷ 97 ∷ []) 11 ∷ case full (60 ∷ 97 ∷ []) 11 ∷ case full (60 ∷ 49 ∷ []) 4
    ∷ []

pub record Log : Type 0 where
  pub events : List Event
  pub number : ℕ

abbrev pub log_of : List Event → ℕ → Log
log_of vs n = record { events = vs; number = n }

unfoldable pub logs : List Log
logs =
    log_of (finish ∷ []) 0 ∷ log_of (char 120 ∷ finish ∷ []) 0 ∷ log_of (start 0 ∷ start 1 ∷ end 1 ∷ end 0 ∷ finish ∷ []) 0 ∷ log_of (start 0 ∷ end 0 ∷ start 1 ∷ char 120 ∷ end 1 ∷ finish ∷ []) 0
    -- 64 open at once, and ended again
    ∷ log_of (replicate 64 (start 0)) 0 ∷ log_of (replicate 64 (start 0) ++ replicate 64 (end 0) ++ (finish ∷ [])) 0
    ∷ log_of (end 0 ∷ []) 6 ∷ log_of (start 0 ∷ end 1 ∷ []) 6 ∷ log_of (start 0 ∷ start 1 ∷ end 0 ∷ []) 6 ∷ log_of (start 0 ∷ end 0 ∷ end 0 ∷ []) 6
    ∷ log_of (replicate 65 (start 0)) 7 ∷ log_of (replicate 64 (start 0) ++ (char 120 ∷ start 1 ∷ [])) 7
    ∷ log_of (start 0 ∷ finish ∷ []) 11 ∷ log_of (start 0 ∷ start 1 ∷ end 1 ∷ finish ∷ []) 11
    ∷ []
