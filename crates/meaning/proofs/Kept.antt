-- An event keeps the stream that the held expression stands for: `kept`. Assumes nothing.
use Prim.Native.Nat.{ℕ, zero, suc}
use mathlib.Core.Path.{◌≡◌, refl, ap}
use mathlib.Core.List.{List, [], ◌∷◌, ◌++◌, append_assoc, append-nil}
use mathlib.Core.Option.{Option, none, some}
use lib.ListN.{get_or}
use Rattle.meaning.specs.Denoted.{denoted, denoted_all, at}
use Rattle.meaning.specs.Event.{Event}
use Rattle.meaning.specs.Forest.{start_tag, end_tag, character, Stream}
use Rattle.meaning.specs.Held.{Expr, ε, opening, closing, chr, wait, Args, ∅, also, match_of, name_of, char_of, level_of, waits, target, join, argument, instance, instances, rewritten, step, steps}
use Rattle.meaning.specs.Rules.{Source, children, siblings, Rhs, done, element, matched, letter, matched_letter, value, call, RArgs, no_arg, arg, Table}
use Rattle.meaning.specs.Value.{Sem, from, rhs_value, rhs_values}

denoted-join : (E : ℕ → Sem) (a k : Expr) → denoted E (join a k) ≡ denoted E a ++ denoted E k
unfolding denoted join
denoted-join E ε k = refl
denoted-join E (opening n a) k = ap (start_tag n ∷◌) (denoted-join E a k)
denoted-join E (closing n a) k = ap (end_tag n ∷◌) (denoted-join E a k)
denoted-join E (chr c a) k = ap (character c ∷◌) (denoted-join E a k)
denoted-join E (wait q i es a) k = rw (append_assoc, ← denoted-join E a k)

denoted-argument : (E : ℕ → Sem) (es : Args) (j : ℕ) → denoted E (argument es j) ≡ get_or (denoted_all E es) j []
unfolding denoted argument
denoted-argument E ∅ j = refl
denoted-argument E (also e es) zero = refl
denoted-argument E (also e es) (suc j) = denoted-argument E es j

denoted-waits : (E : ℕ → Sem) (o : Option ℕ) (q : ℕ) (es : Args) (k : Expr) → denoted E (waits o q es k) ≡ at E o q (denoted_all E es) ++ denoted E k
unfolding denoted
denoted-waits E none q es k = refl
denoted-waits E (some i) q es k = refl

from_level : (E : ℕ → Sem) (v : Event) (x : Source) → at E (level_of v x) ≡ from x (at E (level_of v children)) (at E (level_of v siblings))
from_level E v children = refl
from_level E v siblings = refl

-- a right side's value at an event, when E says what is to come after it
abbrev pub value_at : (ℕ → Sem) → Event → List Stream → Rhs → Stream
value_at E v = rhs_value (name_of v) (char_of v) (at E (level_of v children)) (at E (level_of v siblings))

-- the instance of a right side denotes its value
module _ (E : ℕ → Sem) (v : Event) (vs : Args) where
  mutual
    unfolding denoted instance rhs_value

    denoted-instance : (r : Rhs) (k : Expr) → denoted E (instance v vs r k) ≡ value_at E v (denoted_all E vs) r ++ denoted E k
    denoted-instance done k = refl
    denoted-instance (element m b r) k = rw (denoted-instance b (closing m (instance v vs r k)), denoted-instance r k, append_assoc)
    denoted-instance (matched b r) k = rw (denoted-instance b (closing (name_of v) (instance v vs r k)), denoted-instance r k, append_assoc)
    denoted-instance (letter d r) k = ap (character d ∷◌) (denoted-instance r k)
    denoted-instance (matched_letter r) k = ap (character (char_of v) ∷◌) (denoted-instance r k)
    denoted-instance (value j r) k = rw (denoted-join, denoted-argument, denoted-instance r k, append_assoc)
    denoted-instance (call x q rs r) k = rw (denoted-waits, from_level E v x, denoted-instances rs, denoted-instance r k, append_assoc)

    denoted-instances : (rs : RArgs) → denoted_all E (instances v vs rs) ≡ rhs_values (name_of v) (char_of v) (at E (level_of v children)) (at E (level_of v siblings)) (denoted_all E vs) rs
    denoted-instances no_arg = refl
    denoted-instances (arg r rs) = rw (denoted-instance r ε, denoted-instances rs, append-nil)

-- E before the event v and E' after it
abbrev pub turned : Table → Event → (ℕ → Sem) → Option ℕ → Sem
turned M v E' none q vs = value_at E' v vs (M.rule q (match_of v))
turned M v E' (some i) q vs = E' i q vs

abbrev pub Follows : Table → Event → (ℕ → Sem) → (ℕ → Sem) → Type 0
Follows M v E E' = (i q : ℕ) (vs : List Stream) → E i q vs ≡ turned M v E' (target v i) q vs

module _ (M : Table) (v : Event) (E E' : ℕ → Sem) (f : Follows M v E E') where
  kept_call : (q : ℕ) (o : Option ℕ) (es : Args) (e : Expr) → turned M v E' o q (denoted_all E' es) ++ denoted E' e ≡ denoted E' (rewritten M v q o es e)
  unfolding denoted
  kept_call q none es e = rw denoted-instance
  kept_call q (some i) es e = refl

  mutual
    unfolding denoted step

    pub kept : (e : Expr) → denoted E e ≡ denoted E' (step M v e)
    kept ε = refl
    kept (opening n e) = ap (start_tag n ∷◌) (kept e)
    kept (closing n e) = ap (end_tag n ∷◌) (kept e)
    kept (chr c e) = ap (character c ∷◌) (kept e)
    kept (wait q i es e) = rw (kept e, kept_all es, f i) (kept_call q (target v i) (steps M v es) (step M v e))

    kept_all : (es : Args) → denoted_all E es ≡ denoted_all E' (steps M v es)
    kept_all ∅ = refl
    kept_all (also e es) = rw (kept e, kept_all es)
