-- Bytes laid into the output, one part after the other: what the check uses to prove the code. Assumes nothing.
--
--   behind, at_front, over_two      parts laid one behind the other are laid as one
--   over_part, over_tag             what `put` and `tag` lay
--   no_room, some_room              the size that a write answers; not_laid, all_laid: the output then
--   laid_part                       what is laid into the unused tail
use Rattle.std.proofs.Common.{ℕ, ◌+◌, ◌-◌, ◌≡◌, ◌≤◌, ◌<◌, refl, sym, ap, ap₂, ◌∙◌, Bool, true, false, cond, List, ◌++◌, append_assoc, Some, None, length, take, drop, length-append, length-drop, zero-add, append-nil, arith}
use Rattle.std.proofs.lemmas.Bool.{le-leb, lt-leb, leb-true, leb-false}
use Rattle.std.proofs.lemmas.List.{take_at, drop_at, drop-drop, drop_all, take_rest, take-append-drop}
use Rattle.std.proofs.Math.Dec.{leb}
use borrow.Rule.Slice.PartMut.{put_mid}
use Rattle.writer.specs.Laid.{over, room, laid}

-- behind what stands in front
pub behind : (a t v : List ℕ) → over (a ++ t) (length a) v ≡ a ++ (v ++ drop (length v) t)
unfolding over
behind a t v = ap₂ ◌++◌ (take_at a t (length a) refl) (ap (λ (x : List ℕ). v ++ x) (sym (drop-drop (length v) (length a) (a ++ t)) ∙ ap (drop (length v)) (drop_at a t (length a) refl)))

-- from the first byte on: the bytes, and what stood behind them
pub at_front : (l v : List ℕ) → over l 0 v ≡ v ++ drop (length v) l
unfolding over
at_front l v = ap (λ (n : ℕ). v ++ drop n l) (zero-add (length v))

-- part behind part
pub over_two : (l u v : List ℕ) → over (over l 0 u) (length u) v ≡ over l 0 (u ++ v)
over_two l u v =
    ap (λ (x : List ℕ). over x (length u) v) (at_front l u)
    ∙ behind u (drop (length u) l) v
    ∙ ap (λ (x : List ℕ). u ++ (v ++ x)) (drop-drop (length v) (length u) l ∙ ap (λ (n : ℕ). drop n l) (sym (length-append u v)))
    ∙ sym (append_assoc u v (drop (length (u ++ v)) l))
    ∙ sym (at_front l (u ++ v))

-- a tag's three parts
pub over_tag : (o p q u v w : List ℕ) → p ≡ over o 0 u → q ≡ over p (length u) v → over q (length u + length v) w ≡ over o 0 (u ++ (v ++ w))
over_tag o p q u v w e f =
    ap₂ (λ (x : List ℕ) (n : ℕ). over x n w) (f ∙ ap (λ (x : List ℕ). over x (length u) v) e ∙ over_two o u v) (sym (length-append u v))
    ∙ over_two o (u ++ v) w
    ∙ ap (over o 0) (append_assoc u v w)

-- a part of the output, written over
pub over_part : (l p v : List ℕ) (i : ℕ) → p ≡ v → put_mid i (i + length v - i) l p ≡ over l i v
unfolding over
over_part l p v i e = rw e (ap (λ (x : List ℕ). take i l ++ (v ++ x)) (drop-drop (i + length v - i) i l ∙ ap (λ (n : ℕ). drop n l) (let h : i + (i + length v - i) ≡ i + length v = omega arith in h)))

-- with room and without
module _ (l v : List ℕ) where
  pub no_room : (i : ℕ) → length l < i + length v → None ≡ room l i v
  unfolding room
  no_room i h = rw (lt-leb (i + length v) (length l) h)

  pub some_room : (i : ℕ) → i + length v ≤ length l → Some (length v) ≡ room l i v
  unfolding room
  some_room i h = rw (le-leb (i + length v) (length l) h)

  pub not_laid : (i : ℕ) → length l < i + length v → l ≡ laid l i v
  unfolding laid
  not_laid i h = rw (lt-leb (i + length v) (length l) h)

  pub all_laid : (i : ℕ) → i + length v ≤ length l → over l i v ≡ laid l i v
  unfolding laid
  all_laid i h = rw (le-leb (i + length v) (length l) h)

-- the unused tail lent: what is laid from its first byte on is laid from the place on where it begins
module _ (l p v : List ℕ) (i : ℕ) (k : i ≤ length l) where
  tail_long : length (drop i l) ≡ length l - i
  tail_long = length-drop i l

  whole : put_mid i (length l - i) l p ≡ take i l ++ p
  whole = ap (λ (x : List ℕ). take i l ++ (p ++ x)) (drop_all (length l - i) (drop i l) (omega (arith, tail_long))) ∙ ap (λ (x : List ℕ). take i l ++ x) (append-nil p)

  tail_laid : (t : Bool) → leb (i + length v) (length l) ≡ t → take i l ++ laid (drop i l) 0 v ≡ cond t (over l i v) l
  unfolding over
  tail_laid true h =
      ap (λ (x : List ℕ). take i l ++ x) (sym (all_laid (drop i l) v 0 (omega (arith, tail_long, leb-true (i + length v) (length l) h))) ∙ at_front (drop i l) v)
      ∙ ap (λ (x : List ℕ). take i l ++ (v ++ x)) (drop-drop (length v) i l)
  tail_laid false h =
      ap (λ (x : List ℕ). take i l ++ x) (sym (not_laid (drop i l) v 0 (omega (arith, tail_long, leb-false (i + length v) (length l) h))))
      ∙ take-append-drop i l

  pub laid_part : p ≡ laid (take (length l - i) (drop i l)) 0 v → put_mid i (length l - i) l p ≡ laid l i v
  unfolding laid
  laid_part e =
      whole
      ∙ ap (λ (x : List ℕ). take i l ++ x) (e ∙ ap (λ (x : List ℕ). laid x 0 v) (take_rest l i))
      ∙ tail_laid (leb (i + length v) (length l)) refl

pub ruleset laid_laws = (over_tag, over_part, no_room, some_room, not_laid, all_laid, laid_part)
