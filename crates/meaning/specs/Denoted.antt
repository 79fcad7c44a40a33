-- The stream that a held expression stands for, when E says what each forest still to come does. Assumes nothing.
--
-- E i is what the forest does that is read after i more end tags: the environment of the waiting calls, by level.
--
--   denoted     what the expression will have been written as, in the end
--   to_come     the environment that events still to come make: `meaning` of the forests that they spell
use Rattle.std.specs.Prelude.{ℕ, List, [], ◌∷◌, ◌++◌}
use Rattle.std.proofs.Math.Option.{Option, none, some}
use Rattle.meaning.specs.Forest.{start_tag, end_tag, character, Stream}
use Rattle.meaning.specs.Rules.{Table}
use Rattle.meaning.specs.Value.{Sem, silent, meaning}
use Rattle.meaning.specs.Event.{Event, spelled}
use Rattle.meaning.specs.Held.{Expr, Args, ε, opening, closing, chr, wait, ∅, also}

module _ (E : ℕ → Sem) where
  unfoldable mutual
    pub denoted : Expr → Stream
    denoted ε = []
    denoted (opening n e) = start_tag n ∷ denoted e
    denoted (closing n e) = end_tag n ∷ denoted e
    denoted (chr c e) = character c ∷ denoted e
    denoted (wait q i es e) = E i q (denoted_all es) ++ denoted e

    pub denoted_all : Args → List Stream
    denoted_all ∅ = []
    denoted_all (also e es) = denoted e ∷ denoted_all es

abbrev pub at : (ℕ → Sem) → Option ℕ → Sem
at E none = silent
at E (some i) = E i

abbrev pub to_come : Table → List Event → ℕ → Sem
to_come M vs i = meaning M (spelled vs i)
