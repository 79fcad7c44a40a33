-- The numbers of a table's vocabulary have room in a word. Assumes nothing.
use Rattle.std.proofs.Common.{ℕ, ◌≤◌, ◌<◌, ◌≡◌, List, false, T, arith, ne_eqb}
use Rattle.std.proofs.Math.Bool.{and-false}
use Rattle.std.proofs.Math.Decide.{dec_lt}
use Rattle.std.proofs.lemmas.Bool.{lt-leb}
use Rattle.alphabet.specs.Classes.{is_leaf}
use Rattle.table.specs.Index.{names_in, states_in, vocab}
use Rattle.held.specs.Words.{Room}

-- no leaf character is above 126
pub leaf-high : (c : ℕ) → 127 ≤ c → is_leaf c ≡ false
unfolding is_leaf
leaf-high c h = simp (ne_eqb c 9 (λ z. omega arith), ne_eqb c 10 (λ z. omega arith), ne_eqb c 13 (λ z. omega arith), lt-leb c 126 h, and-false)

pub leaf-low : (c : ℕ) → T (is_leaf c) → c < 127
leaf-low c t = go (dec_lt c 127)
  where
    go : Dec (c < 127) → c < 127
    go (yes l) = l
    go (no n) = let h : is_leaf c ≡ false = leaf-high c (omega arith) in absurd (rw h at t)

-- an index's names and states are 16-bit words, and document 01 has at most 64 open elements
pub vocab_room : (ix : List ℕ) (d : ℕ) → names_in ix < 65536 → states_in ix < 65536 → d ≤ 64 → Room (vocab ix) d
vocab_room ix d n s h = record { names = omega arith; states = omega arith; leaves = λ c t. omega (arith, leaf-low c t); deep = omega arith }
