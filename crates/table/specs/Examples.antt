-- Tables of document 01 as bytes, and small bad ones. Assumes nothing.
--
--   copy_bytes   "these 33 bytes"
--   flip_bytes, twin_bytes, sheet_bytes   Flip with the names a and b, Twin with none, Sheet with its five
--   Case        a table with the number and place that its check must give
--   cases       each clause of refusals 1, 2 and 3, and the mixtures of REQUIREMENTS B6.12
use Rattle.std.specs.Prelude.{ℕ, zero, suc, ◌+◌, ◌/◌, ◌%◌, List, [], ◌∷◌, ◌++◌, length, take, replicate}

-- a field: its tag and its content, shorter than 256 bytes
abbrev pub short : ℕ → List ℕ → List ℕ
short tag c = tag ∷ 0 ∷ length c ∷ c

abbrev pub final : List ℕ
final = 4 ∷ 0 ∷ 0 ∷ []

abbrev pub copy_bytes : List ℕ
copy_bytes =
    0x01 ∷ 0x00 ∷ 0x01 ∷ 0x61
    ∷ 0x02 ∷ 0x00 ∷ 0x01 ∷ 0x00
    ∷ 0x03 ∷ 0x00 ∷ 0x0A ∷ 0x00 ∷ 0x02 ∷ 0x11 ∷ 0x15 ∷ 0x01 ∷ 0x00 ∷ 0x1F ∷ 0x15 ∷ 0x02 ∷ 0x00
    ∷ 0x03 ∷ 0x00 ∷ 0x06 ∷ 0x00 ∷ 0x03 ∷ 0x13 ∷ 0x15 ∷ 0x02 ∷ 0x00
    ∷ 0x04 ∷ 0x00 ∷ 0x00
    ∷ []

abbrev pub flip_bytes : List ℕ
flip_bytes =
    short 1 (97 ∷ []) ++ short 1 (98 ∷ []) ++ short 2 (1 ∷ [])
    ++ short 3 (0 ∷ 0 ∷ 0x14 ∷ 0 ∷ [])
    ++ short 3 (0 ∷ 2 ∷ 0x15 ∷ 2 ∷ 0 ∷ 0x11 ∷ 0x15 ∷ 1 ∷ 0 ∷ 0x1F ∷ 0x1F ∷ 0x14 ∷ 0 ∷ 0x1F ∷ [])
    ++ short 3 (0 ∷ 3 ∷ 0x15 ∷ 2 ∷ 0 ∷ 0x13 ∷ 0x14 ∷ 0 ∷ 0x1F ∷ [])
    ++ final

abbrev pub twin_bytes : List ℕ
twin_bytes =
    short 2 (1 ∷ []) ++ short 2 (1 ∷ [])
    ++ short 3 (0 ∷ 0 ∷ 0x14 ∷ 0 ∷ [])
    ++ short 3 (0 ∷ 3 ∷ 0x15 ∷ 2 ∷ 0 ∷ 0x15 ∷ 2 ∷ 1 ∷ 0x14 ∷ 0 ∷ 0x1F ∷ 0x1F ∷ [])
    ++ short 3 (1 ∷ 0 ∷ 0x14 ∷ 0 ∷ 0x14 ∷ 0 ∷ [])
    ++ short 3 (1 ∷ 3 ∷ 0x15 ∷ 2 ∷ 1 ∷ 0x14 ∷ 0 ∷ 0x1F ∷ [])
    ++ final

-- names log pt v val none; states 0, 1, and 2, which copies
abbrev pub rest_of : ℕ → List ℕ
rest_of q = 0x15 ∷ 2 ∷ q ∷ []

abbrev pub sheet_bytes : List ℕ
sheet_bytes =
    short 1 (108 ∷ 111 ∷ 103 ∷ []) ++ short 1 (112 ∷ 116 ∷ []) ++ short 1 (118 ∷ []) ++ short 1 (118 ∷ 97 ∷ 108 ∷ []) ++ short 1 (110 ∷ 111 ∷ 110 ∷ 101 ∷ [])
    ++ short 2 (0 ∷ []) ++ short 2 (0 ∷ []) ++ short 2 (0 ∷ [])
    ++ short 3 (0 ∷ 1 ∷ 0 ∷ 0x11 ∷ 0x15 ∷ 1 ∷ 0 ∷ 0x1F ∷ rest_of 0)
    ++ short 3 (0 ∷ 1 ∷ 1 ∷ 0x11 ∷ 0x15 ∷ 1 ∷ 1 ∷ 0x1F ∷ rest_of 0)
    ++ short 3 (0 ∷ 2 ∷ rest_of 0)
    ++ short 3 (0 ∷ 3 ∷ rest_of 0)
    ++ short 3 (1 ∷ 0 ∷ 0x10 ∷ 4 ∷ 0x1F ∷ [])
    ++ short 3 (1 ∷ 1 ∷ 2 ∷ 0x10 ∷ 3 ∷ 0x15 ∷ 1 ∷ 2 ∷ 0x1F ∷ [])
    ++ short 3 (1 ∷ 2 ∷ rest_of 1)
    ++ short 3 (1 ∷ 3 ∷ rest_of 1)
    ++ short 3 (2 ∷ 2 ∷ 0x11 ∷ 0x15 ∷ 1 ∷ 2 ∷ 0x1F ∷ rest_of 2)
    ++ short 3 (2 ∷ 3 ∷ 0x13 ∷ rest_of 2)
    ++ final

pub record Case : Type 0 where
  pub bytes : List ℕ
  pub number : ℕ
  pub place : ℕ

abbrev pub case : List ℕ → ℕ → ℕ → Case
case bs n p = record { bytes = bs; number = n; place = p }

-- the name a, one state without values, and one rule; its field stands at 8
abbrev pub one_rule : List ℕ → List ℕ
one_rule c = short 1 (97 ∷ []) ++ short 2 (0 ∷ []) ++ short 3 c ++ final

-- the same with one carried value
abbrev pub one_value : List ℕ → List ℕ
one_value c = short 1 (97 ∷ []) ++ short 2 (1 ∷ []) ++ short 3 c ++ final

-- n names of two bytes, from the letters that begin and continue one; each field has 5 bytes
unfoldable pub many_names : ℕ → List ℕ
many_names zero = []
many_names (suc n) = short 1 ((65 + n / 10) ∷ (48 + n % 10) ∷ []) ++ many_names n

unfoldable pub many_states : ℕ → List ℕ
many_states zero = []
many_states (suc n) = short 2 (0 ∷ []) ++ many_states n

-- n times the bytes bs
unfoldable pub often : ℕ → List ℕ → List ℕ
often zero bs = []
often (suc n) bs = bs ++ often n bs

-- refusal 1
unfoldable pub form_cases : List Case
form_cases =
    -- no field at all; example 11: the end missing
    case [] 1 0
    ∷ case (take 30 copy_bytes) 1 30
    -- field tag; head cut; content past the end
    ∷ case (short 5 [] ++ final) 1 0
    ∷ case (1 ∷ 0 ∷ []) 1 0
    ∷ case (1 ∷ 0 ∷ 2 ∷ 97 ∷ []) 1 0
    -- a rule or the end before any state, with and without bytes after it
    ∷ case (short 3 (0 ∷ 0 ∷ []) ++ final) 1 0
    ∷ case final 1 0
    ∷ case (final ++ final) 1 0
    -- a name after a state, a name or a state after a rule
    ∷ case (short 2 (0 ∷ []) ++ short 1 (97 ∷ []) ++ final) 1 4
    ∷ case (short 2 (0 ∷ []) ++ short 3 (0 ∷ 0 ∷ []) ++ short 1 (97 ∷ []) ++ final) 1 9
    ∷ case (short 2 (0 ∷ []) ++ short 3 (0 ∷ 0 ∷ []) ++ short 2 (0 ∷ []) ++ final) 1 9
    -- a name of no byte, of 33, of a byte that cannot begin or continue one, twice
    ∷ case (short 1 []) 1 0
    ∷ case (short 1 (replicate 33 97)) 1 0
    ∷ case (short 1 (49 ∷ [])) 1 0
    ∷ case (short 1 (97 ∷ 32 ∷ [])) 1 0
    ∷ case (short 1 (97 ∷ []) ++ short 1 (98 ∷ []) ++ short 1 (97 ∷ [])) 1 8
    -- a state of no byte, of two, with five values
    ∷ case (short 2 []) 1 0
    ∷ case (short 2 (0 ∷ 0 ∷ [])) 1 0
    ∷ case (short 2 (5 ∷ [])) 1 0
    -- a rule of no byte, of a state alone (unknown), of pattern 01 without its name
    ∷ case (one_rule []) 1 8
    ∷ case (one_rule (9 ∷ [])) 1 8
    ∷ case (one_rule (0 ∷ 1 ∷ [])) 1 8
    -- an end with content; bytes after the end
    ∷ case (short 2 (0 ∷ []) ++ short 4 (0 ∷ [])) 1 4
    ∷ case (copy_bytes ++ (0 ∷ [])) 1 33
    ∷ case (copy_bytes ++ final) 1 33
    ∷ []

-- refusal 3, at the rule's field
unfoldable pub rule_cases : List (List ℕ)
rule_cases =
    -- state, pattern, name
    (1 ∷ 0 ∷ []) ∷ (0 ∷ 4 ∷ []) ∷ (0 ∷ 7 ∷ []) ∷ (0 ∷ 1 ∷ 1 ∷ [])
    -- item, character, source, called state, name of an element, carried value
    ∷ (0 ∷ 0 ∷ 0xFF ∷ []) ∷ (0 ∷ 0 ∷ 0x12 ∷ 1 ∷ []) ∷ (0 ∷ 2 ∷ 0x15 ∷ 3 ∷ 0 ∷ []) ∷ (0 ∷ 2 ∷ 0x15 ∷ 1 ∷ 1 ∷ []) ∷ (0 ∷ 0 ∷ 0x10 ∷ 1 ∷ 0x1F ∷ []) ∷ (0 ∷ 0 ∷ 0x14 ∷ 0 ∷ [])
    -- items where they are not allowed: 11 and 13 under other patterns, a call under 00, children under 03
    ∷ (0 ∷ 0 ∷ 0x11 ∷ 0x1F ∷ []) ∷ (0 ∷ 3 ∷ 0x11 ∷ 0x1F ∷ []) ∷ (0 ∷ 2 ∷ 0x13 ∷ []) ∷ (0 ∷ 0 ∷ 0x13 ∷ []) ∷ (0 ∷ 0 ∷ 0x15 ∷ 2 ∷ 0 ∷ []) ∷ (0 ∷ 3 ∷ 0x15 ∷ 1 ∷ 0 ∷ [])
    -- cut in an item, cut with an end owed, over-closed
    ∷ (0 ∷ 0 ∷ 0x10 ∷ []) ∷ (0 ∷ 0 ∷ 0x12 ∷ []) ∷ (0 ∷ 0 ∷ 0x14 ∷ []) ∷ (0 ∷ 2 ∷ 0x15 ∷ []) ∷ (0 ∷ 2 ∷ 0x15 ∷ 2 ∷ []) ∷ (0 ∷ 0 ∷ 0x10 ∷ 0 ∷ []) ∷ (0 ∷ 0 ∷ 0x1F ∷ [])
    -- 3 before 2: nine unclosed elements; 65 characters and then FF; an unknown state with 65 words
    ∷ (0 ∷ 2 ∷ replicate 9 0x11) ∷ (0 ∷ 0 ∷ often 65 (0x12 ∷ 97 ∷ []) ++ (0xFF ∷ [])) ∷ (1 ∷ 0 ∷ often 65 (0x12 ∷ 97 ∷ []))
    ∷ []

-- refusal 2, and its limits; and 1 before it
unfoldable pub limit_cases : List Case
limit_cases =
    -- a 129th name; doubled; malformed
    case (many_names 129) 2 640
    ∷ case (many_names 128 ++ short 1 (65 ∷ 48 ∷ [])) 1 640
    ∷ case (many_names 128 ++ short 1 (48 ∷ [])) 1 640
    ∷ case (many_names 128 ++ short 2 (0 ∷ []) ++ final) 0 647
    -- a 65th state; malformed
    ∷ case (many_states 65) 2 256
    ∷ case (many_states 64 ++ short 2 (5 ∷ [])) 1 256
    ∷ case (many_states 64 ++ final) 0 259
    -- 64 and 65 words; 8 and 9 ends owed
    ∷ case (one_rule (0 ∷ 0 ∷ often 64 (0x12 ∷ 97 ∷ []))) 0 144
    ∷ case (one_rule (0 ∷ 0 ∷ often 65 (0x12 ∷ 97 ∷ []))) 2 8
    ∷ case (one_rule (0 ∷ 2 ∷ replicate 8 0x11 ++ replicate 8 0x1F)) 0 32
    ∷ case (one_rule (0 ∷ 2 ∷ replicate 9 0x11 ++ replicate 9 0x1F)) 2 8
    -- rules not increasing: the same again, a lower pattern, a lower name
    ∷ case (short 2 (0 ∷ []) ++ short 3 (0 ∷ 0 ∷ []) ++ short 3 (0 ∷ 0 ∷ []) ++ final) 3 9
    ∷ case (short 2 (0 ∷ []) ++ short 3 (0 ∷ 3 ∷ []) ++ short 3 (0 ∷ 2 ∷ []) ++ final) 3 9
    ∷ case (short 1 (97 ∷ []) ++ short 1 (98 ∷ []) ++ short 2 (0 ∷ []) ++ short 3 (0 ∷ 1 ∷ 1 ∷ []) ++ short 3 (0 ∷ 1 ∷ 0 ∷ []) ++ final) 3 18
    -- two faulty fields: the earlier one, whatever its number
    ∷ case (short 2 (0 ∷ []) ++ short 3 (0 ∷ 0 ∷ often 65 (0x12 ∷ 97 ∷ [])) ++ short 9 []) 2 4
    -- the examples
    ∷ case copy_bytes 0 33
    ∷ case flip_bytes 0 (length flip_bytes)
    ∷ case twin_bytes 0 (length twin_bytes)
    ∷ case sheet_bytes 0 (length sheet_bytes)
    ∷ []
