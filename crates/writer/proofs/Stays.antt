-- What the output is after a write: all other bytes stay, and bytes written one behind the other stand one behind the other.
-- Assumes nothing.
--
--   length-laid, before-laid, behind-laid   the output is as long as it was, and each byte before and behind stays
--   none_free                               at the output's end or past it no item has room, and the output stays
--   written-stream                          tokens that are written one behind the other: the bytes of their stream, laid once
--   written-once                            no second answer, and no other output, fits what `write_at` ensures
use Rattle.std.proofs.Common.{ℕ, ◌+◌, ◌-◌, ◌≡◌, ◌≤◌, ◌<◌, refl, sym, ap, ap₂, ◌∙◌, Bool, true, false, cond, List, [], ◌∷◌, ◌++◌, append_assoc, Option, None, length, get_or, take, drop, length-append, length-drop, add-zero, arith}
use Rattle.std.proofs.Math.Dec.{leb}
use Rattle.std.proofs.lemmas.Bool.{leb-true}
use Rattle.std.proofs.lemmas.List.{drop-drop, take-append-drop, length-take-le, get_or-take, get_or-drop, get_or_append_left}
use Rattle.std.proofs.Math.Seq.{get_or-append_right}
use Rattle.meaning.specs.Forest.{Token}
use Rattle.reader.specs.Form.{Form, start_of, end_of, text_of, ref_of, spelling}
use Rattle.writer.specs.Bytes.{bytes_of, bytes_of_stream}
use Rattle.writer.specs.Item.{item_form, item_bytes}
use Rattle.writer.specs.Laid.{over, room, laid, written_at}
use Rattle.writer.specs.declared.Item.{Item}
use Rattle.writer.proofs.Laid.{behind, no_room, not_laid, all_laid}

module _ (l v : List ℕ) (i : ℕ) where
  -- what holds of the output as it was, and of the output written over, holds of the output
  laid_case : (P : List ℕ → Type 0) → P l → (i + length v ≤ length l → P (over l i v)) → P (laid l i v)
  unfolding laid
  laid_case P p q = go (leb (i + length v) (length l)) refl
    where
      go : (t : Bool) → leb (i + length v) (length l) ≡ t → P (cond t (over l i v) l)
      go true e = q (leb-true (i + length v) (length l) e)
      go false e = p

  pub length-over : i + length v ≤ length l → length (over l i v) ≡ length l
  unfolding over
  length-over h = omega (
    arith,
    length-append (take i l) (v ++ drop (i + length v) l),
    length-append v (drop (i + length v) l),
    length-take-le i l (let k : i ≤ length l = omega arith in k),
    length-drop (i + length v) l,
  )

  pub length-laid : length (laid l i v) ≡ length l
  length-laid = laid_case (λ x. length x ≡ length l) refl length-over

  front_long : i + length v ≤ length l → length (take i l) ≡ i
  front_long h = length-take-le i l (omega arith)

  before-over : (k d : ℕ) → k < i → i + length v ≤ length l → get_or (over l i v) k d ≡ get_or l k d
  unfolding over
  before-over k d h r = get_or_append_left (take i l) (v ++ drop (i + length v) l) d k (omega (arith, front_long r)) ∙ get_or-take i l k d h

  behind-over : (k d : ℕ) → i + length v ≤ k → i + length v ≤ length l → get_or (over l i v) k d ≡ get_or l k d
  unfolding over
  behind-over k d h r =
      let f = front_long r in
      get_or-append_right (take i l) (v ++ drop (i + length v) l) k d (omega arith)
      ∙ get_or-append_right v (drop (i + length v) l) (k - length (take i l)) d (omega arith)
      ∙ get_or-drop (i + length v) l (k - length (take i l) - length v) d
      ∙ ap (λ (n : ℕ). get_or l n d) (let e : i + length v + (k - length (take i l) - length v) ≡ k = omega arith in e)

  pub before-laid : (k d : ℕ) → k < i → get_or (laid l i v) k d ≡ get_or l k d
  before-laid k d h = laid_case (λ x. get_or x k d ≡ get_or l k d) refl (before-over k d h)

  pub behind-laid : (k d : ℕ) → i + length v ≤ k → get_or (laid l i v) k d ≡ get_or l k d
  behind-laid k d h = laid_case (λ x. get_or x k d ≡ get_or l k d) refl (behind-over k d h)

some_byte : (f : Form) → 0 < length (spelling f)
some_byte (start_of n) = omega arith
some_byte (end_of n) = omega arith
some_byte (text_of b) = omega arith
some_byte (ref_of r) = omega arith

pub none_free : (l : List ℕ) (i : ℕ) (it : Item) → length l ≤ i → (room l i (item_bytes it) ≡ None) × (laid l i (item_bytes it) ≡ l)
unfolding item_bytes
none_free l i it h =
    let s = some_byte (item_form it) in
    (sym (no_room l (item_bytes it) i (omega arith)), sym (not_laid l (item_bytes it) i (omega arith)))

-- part behind part
pub over-over : (l u v : List ℕ) (i : ℕ) → i ≤ length l → over (over l i u) (i + length u) v ≡ over l i (u ++ v)
unfolding over
over-over l u v i h =
    let n : length (take i l ++ u) ≡ i + length u = length-append (take i l) u ∙ ap (λ (n : ℕ). n + length u) (length-take-le i l h) in
    ap₂ (λ (x : List ℕ) (n : ℕ). over x n v) (sym (append_assoc (take i l) u (drop (i + length u) l))) (sym n)
    ∙ behind (take i l ++ u) (drop (i + length u) l) v
    ∙ append_assoc (take i l) u (v ++ drop (length v) (drop (i + length u) l))
    ∙ ap (λ (x : List ℕ). take i l ++ x) (
    ap (λ (x : List ℕ). u ++ (v ++ x)) (drop-drop (length v) (i + length u) l ∙ ap (λ (n : ℕ). drop n l) (let e : i + length u + length v ≡ i + length (u ++ v) = omega (arith, length-append u v) in e))
    ∙ sym (append_assoc u v (drop (i + length (u ++ v)) l))
    )

over_none : (l : List ℕ) (i : ℕ) → over l i [] ≡ l
unfolding over
over_none l i = ap (λ (n : ℕ). take i l ++ drop n l) (add-zero i) ∙ take-append-drop i l

pub written-stream : (names : List (List ℕ)) (ts : List Token) (l : List ℕ) (i : ℕ) → i + length (bytes_of_stream names ts) ≤ length l → written_at names ts l i ≡ over l i (bytes_of_stream names ts)
unfolding written_at bytes_of_stream
written-stream names [] l i h = sym (over_none l i)
written-stream names (t ∷ ts) l i h =
    let b = bytes_of names t in
    let r = bytes_of_stream names ts in
    let n : length (b ++ r) ≡ length b + length r = length-append b r in
    let o : length (over l i b) ≡ length l = length-over l b i (omega arith) in
    ap (λ (x : List ℕ). written_at names ts x (i + length b)) (sym (all_laid l b i (omega arith)))
    ∙ written-stream names ts (over l i b) (i + length b) (omega arith)
    ∙ over-over l b r i (omega arith)

pub written-once : (l : List ℕ) (i : ℕ) (it : Item) (r s : Option ℕ) (x y : List ℕ)
    → r ≡ room l i (item_bytes it) → x ≡ laid l i (item_bytes it) → s ≡ room l i (item_bytes it) → y ≡ laid l i (item_bytes it)
    → (r ≡ s) × (x ≡ y)
written-once l i it r s x y e g f h = (e ∙ sym f, g ∙ sym h)
