-- The nesting's cases, computed. Assumes nothing.
use Rattle.std.proofs.Common.{◌≡◌, refl, [], Ok, map}
use Rattle.alphabet.specs.Classes.{name_start, name_part, is_text}
use Rattle.table.specs.Format.{same_bytes, number_of}
use Rattle.reader.specs.Nest.{nested, read_nested}
use Rattle.reader.specs.NestExamples.{nest_number, a_and_b, case, log_of, offer_cases, logs}
use Rattle.reader.specs.Owed.{through}
use Rattle.reader.specs.Read.{found_of, answered, read_event}
use Rattle.reader.specs.Scan.{name_rest, scan_name, scan_tag, scan_word, scan_among, scan_reference, scan}

offer_cases_lem : map (λ c. case c.before c.bytes (nest_number (read_nested a_and_b c.before c.bytes))) offer_cases ≡ offer_cases
unfolding nested read_nested read_event answered found_of scan scan_tag scan_name name_rest scan_reference scan_among scan_word same_bytes number_of name_start name_part is_text offer_cases
offer_cases_lem = refl

logs_lem : map (λ l. log_of l.events (nest_number (through (Ok []) l.events))) logs ≡ logs
unfolding nested through logs
logs_lem = refl
