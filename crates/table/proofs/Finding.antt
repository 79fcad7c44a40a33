-- The lookup in an index: what stands where it says is the right side. Assumes nothing.
use Rattle.std.proofs.Common.{min, ℕ, zero, suc, ◌≡◌, ◌+◌, ◌*◌, ◌-◌, ◌<◌, refl, sym, ap, ap₂, ◌∙◌, cond, List, length, get_or, take, drop, arith}
use Rattle.std.proofs.lemmas.List.{take_min, drop_min, length-take}
use Rattle.std.proofs.lemmas.Slice.{between_is}
use lib.Dec.{eqb}
use Rattle.std.proofs.Math.Seq.{slice}
use Rattle.meaning.specs.Rules.{Match}
use Rattle.table.specs.Format.{read}
use Rattle.table.specs.Rules.{side_for}
use Rattle.table.specs.Index.{side_from, side_to, known, Indexed}
use Rattle.table.specs.Found.{side_in}

pub from_some : (l : List ℕ) (at : ℕ) → 0 < at → side_from l at ≡ at + cond (eqb (get_or l (at + 4) 0) 1) 6 5
from_some l zero h = absurd (omega arith)
from_some l (suc at) h = refl

pub to_some : (l : List ℕ) (at : ℕ) → 0 < at → side_to l at ≡ at + 3 + (get_or l (at + 1) 0 * 256 + get_or l (at + 2) 0)
to_some l zero h = absurd (omega arith)
to_some l (suc at) h = refl

-- what an index of the table says is right
pub side_right : (l ix : List ℕ) (q : ℕ) (m : Match) → Indexed l ix → q < length (read l).contents.ranks → known (read l).contents m → side_in l ix q m ≡ side_for (read l).contents.rules q m
side_right l ix q m I h k = (I.rule q m h k).bytes

-- from one place to another, as far as the list goes
pub part_is : (l : List ℕ) (f t s e : ℕ) → e ≡ min t (length l) → s ≡ min f e → take (e - s) (drop s l) ≡ slice f t l
part_is l f t s e i j =
    between_is l s e
    ∙ ap₂ (λ (a : ℕ) (k : List ℕ). drop a k) (j ∙ ap (λ (a : ℕ). min f a) (i ∙ sym (length-take t l))) (ap (λ (a : ℕ). take a l) i ∙ take_min t l)
    ∙ drop_min f (take t l)

pub ruleset lookup_laws = (part_is, from_some, to_some, side_right)
