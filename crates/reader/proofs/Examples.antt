-- The table of 4 against 11, computed. Assumes nothing.
use Rattle.std.proofs.Common.{ℕ, ◌≡◌, refl, List, map}
use Rattle.alphabet.specs.Classes.{name_start, name_part, is_text}
use Rattle.table.specs.Format.{same_bytes, number_of}
use Rattle.reader.specs.Examples.{Case, refused, two_names, cut_cases, bad_cases, unknown_cases, taken_cases}
use Rattle.reader.specs.Read.{number, taken, event_of, found_of, answered, read_event}
use Rattle.reader.specs.Scan.{name_rest, scan_name, scan_tag, scan_word, scan_among, scan_reference, scan}

-- what the reader answers, as a case
abbrev read : List ℕ → Case
read bs = let r = read_event two_names bs in record { bytes = bs; number = number r; event = event_of r; taken = taken r }

cut_cases_lem : map read cut_cases ≡ map (refused 11) cut_cases
unfolding read_event answered found_of scan scan_tag scan_name name_rest scan_reference scan_among scan_word same_bytes number_of name_start name_part is_text cut_cases
cut_cases_lem = refl

bad_cases_lem : map read bad_cases ≡ map (refused 4) bad_cases
unfolding read_event answered found_of scan scan_tag scan_name name_rest scan_reference scan_among scan_word same_bytes number_of name_start name_part is_text bad_cases
bad_cases_lem = refl

unknown_cases_lem : map read unknown_cases ≡ map (refused 5) unknown_cases
unfolding read_event answered found_of scan scan_tag scan_name name_rest scan_reference scan_among scan_word same_bytes number_of name_start name_part is_text unknown_cases
unknown_cases_lem = refl

taken_cases_lem : map (λ c. read c.bytes) taken_cases ≡ taken_cases
unfolding read_event answered found_of scan scan_tag scan_name name_rest scan_reference scan_among scan_word same_bytes number_of name_start name_part is_text taken_cases
taken_cases_lem = refl
