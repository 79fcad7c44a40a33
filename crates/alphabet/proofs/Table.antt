-- A rule of a table, proved at all of its entries by one test that antt computes, one entry after the other. Assumes nothing.
use Rattle.std.proofs.Common.{ℕ, zero, suc, ◌+◌, ◌<◌, List, [], ◌∷◌, add-zero, zero-add, add-suc, suc-add, arith}
use Rattle.std.proofs.Math.Bool.{Bool, true, false, ◌&&◌}
use Rattle.std.proofs.Math.Dec.{T}
use Rattle.std.proofs.Math.ListN.{length, get_or}

pub both : (a b : Bool) → T (a && b) → T a × T b
both true b t = (tt, t)
both false b t = absurd t

-- the test f passes at each entry of the list and its place, counted from i
abbrev pub every : {A : Type 0} → (ℕ → A → Bool) → ℕ → List A → Bool
every f i [] = true
every f i (x ∷ xs) = f i x && every f (suc i) xs

from : {A : Type 0} (f : ℕ → A → Bool) (xs : List A) (d : A) (i : ℕ) → T (every f i xs) → (k : ℕ) → k < length xs → T (f (i + k) (get_or xs k d))
from f [] d i t k h = absurd (omega arith)
from f (x ∷ xs) d i t zero h = rw (add-zero i) (both (f i x) (every f (suc i) xs) t).0
from f (x ∷ xs) d i t (suc k) h = rw (add-suc i k, ← suc-add i k) (from f xs d (suc i) (both (f i x) (every f (suc i) xs) t).1 k (omega arith))

pub at : {A : Type 0} (f : ℕ → A → Bool) (xs : List A) (d : A) → T (every f 0 xs) → (k : ℕ) → k < length xs → T (f k (get_or xs k d))
at f xs d t k h = rw zero-add at (from f xs d 0 t k h)
