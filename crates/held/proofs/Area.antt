-- Parts of an area, as lists. Assumes nothing.
use Rattle.std.proofs.Common.{ℕ, zero, suc, ◌+◌, ◌-◌, ◌≤◌, ◌<◌, ◌≡◌, List, [], ◌∷◌, length, get_or, take, drop, drop_of_length-le, slice_range, sym, ap, ◌∙◌, arith, suc-add, zero-add, add-one}
use Rattle.std.proofs.Math.Seq.{slice, slice-cons, length-slice, take-nil, take-length}
use Rattle.std.proofs.lemmas.List.{length-take, take-take, drop-drop}

-- a part up to a place before its beginning has nothing
pub slice_none : (f t : ℕ) (l : List ℕ) → t ≤ f → slice f t l ≡ []
slice_none f t l h = let e : length (take t l) ≤ f = simp length-take (omega arith) in drop_of_length-le (take t l) e

-- a part of a part, from its beginning on and up to a place
drop-take : (f k : ℕ) (l : List ℕ) → drop f (take (f + k) l) ≡ take k (drop f l)
drop-take zero k l = ap (λ (n : ℕ). take n l) (zero-add k)
drop-take (suc f) k [] = rw (take-nil (suc f + k), take-nil k)
drop-take (suc f) k (x ∷ l) = ap (λ (n : ℕ). drop (suc f) (take n (x ∷ l))) (suc-add f k) ∙ drop-take f k l

module _ (f k t : ℕ) (l : List ℕ) where
  pub slice_from : slice (f + k) t l ≡ drop k (slice f t l)
  slice_from = sym (drop-drop k f (take t l))

  pub slice_to : f + k ≤ t → slice f (f + k) l ≡ take k (slice f t l)
  slice_to h = ap (drop f) (sym (take-take (f + k) t l h)) ∙ drop-take f k (take t l)

-- a part up to the end, and what `&area[from..to]` is
pub slice_to_end : (f : ℕ) (l : List ℕ) → slice f (length l) l ≡ drop f l
slice_to_end f l = ap (drop f) (take-length l)

pub slice-slice_range : (from to : ℕ) (area : List ℕ) → from ≤ to → slice from to area ≡ slice_range area from to
slice-slice_range from to area h = let e : to ≡ from + (to - from) = omega arith in ap (λ (t : ℕ). slice from t area) e ∙ drop-take from (to - from) area

-- a part that begins with a word: the word, and the part behind it
pub record Headed (at to w : ℕ) (ws area : List ℕ) : Type 0 where
  pub some : at < to
  pub word : get_or area at 0 ≡ w
  pub behind : slice (at + 1) to area ≡ ws

module _ (at to : ℕ) (area : List ℕ) (l : to ≤ length area) where
  pub slice_head : (w : ℕ) (ws : List ℕ) → slice at to area ≡ w ∷ ws → Headed at to w ws area
  slice_head w ws h =
      let s : at < to = omega (arith, ap length h, length-slice at to area l) in
      let e : get_or area at 0 ∷ slice (suc at) to area ≡ w ∷ ws = sym (slice-cons at to area 0 s l) ∙ h in
      record { some = s; word = cc; behind = rw add-one (cc) }

  pub slice_no_word : slice at to area ≡ [] → to ≤ at
  slice_no_word h = omega (arith, ap length h, length-slice at to area l)
