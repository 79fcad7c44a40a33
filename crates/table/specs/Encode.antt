-- Tables written as bytes: what later requests write a table by. Assumes nothing.
--
-- Document 01, "The rule table": "one tag byte, two length bytes (high byte first), then that many bytes". proofs/Encode.antt:
-- an encoded table that is accepted reads as what was encoded; proofs/Decode.antt: an accepted table is the encoding of what it
-- reads as.
--
--   encoded_field  a field with its tag and its content
--   rule_content   the content of a rule's field: a name only after pattern 01
--   encoded        the names, then the states with their carried values, then the rules, then the end
--   Canonical      a rule's name is 0 where its pattern has none
--   Bytes          numbers that are bytes
use Rattle.std.specs.Prelude.{ℕ, ◌/◌, ◌%◌, ◌<◌, ◌≡◌, cond, List, [], ◌∷◌, ◌++◌, eqb, length}
use Rattle.table.specs.Format.{Rule, Contents}

abbrev pub encoded_field : ℕ → List ℕ → List ℕ
encoded_field tag c = tag ∷ (length c / 256) ∷ (length c % 256) ∷ c

abbrev pub rule_content : Rule → List ℕ
rule_content r = r.state ∷ r.pattern ∷ cond (eqb r.pattern 1) (r.name ∷ r.side) r.side

unfoldable pub encoded_names : List (List ℕ) → List ℕ → List ℕ
encoded_names [] k = k
encoded_names (a ∷ as₁) k = encoded_field 1 a ++ encoded_names as₁ k

unfoldable pub encoded_ranks : List ℕ → List ℕ → List ℕ
encoded_ranks [] k = k
encoded_ranks (n ∷ ns) k = encoded_field 2 (n ∷ []) ++ encoded_ranks ns k

unfoldable pub encoded_rules : List Rule → List ℕ → List ℕ
encoded_rules [] k = k
encoded_rules (r ∷ rs) k = encoded_field 3 (rule_content r) ++ encoded_rules rs k

unfoldable pub encoded : Contents → List ℕ
encoded C = encoded_names C.names (encoded_ranks C.ranks (encoded_rules C.rules (encoded_field 4 [])))

abbrev pub Canonical : List Rule → Type 0
Canonical [] = Unit {0}
Canonical (r ∷ rs) = ((r.pattern ≡ 1 → ⊥) → r.name ≡ 0) × Canonical rs

abbrev pub Bytes : List ℕ → Type 0
Bytes [] = Unit {0}
Bytes (b ∷ bs) = (b < 256) × Bytes bs
