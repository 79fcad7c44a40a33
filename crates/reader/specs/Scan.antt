-- The first event in bytes, whatever the table, found byte by byte. Assumes nothing.
--
-- proofs/Scan.antt: it finds exactly the allowed form at the front; it says `cut` exactly of the beginnings of allowed forms.
--
--   Scan        what is found: something whole, or the bytes end inside it, or they begin nothing allowed
--   scan_name    a name and the `>` behind it; `name_rest`: its further bytes, k of them at most
--   scan_word    the bytes of one reference; `scan_reference`: of the five
--   scan        the first event
use Rattle.std.specs.Prelude.{ℕ, zero, suc, cond, List, [], ◌∷◌, eqb}
use Rattle.alphabet.specs.Classes.{name_start, name_part, is_text}
use Rattle.reader.specs.Form.{Reference, lt, gt, amp, quot, apos, letters, Form, start_of, end_of, text_of, ref_of}

pub data Scan (A : Type 0) : Type 0 where
  whole : A → Scan A
  cut : Scan A
  bad : Scan A

abbrev pub over : {A B : Type 0} → (A → B) → Scan A → Scan B
over f (whole a) = whole (f a)
over f cut = cut
over f bad = bad

-- the second where the first is bad
abbrev pub or_else : {A : Type 0} → Scan A → Scan A → Scan A
or_else (whole a) s = whole a
or_else cut s = cut
or_else bad s = s

unfoldable pub name_rest : ℕ → List ℕ → Scan (List ℕ)
name_rest k [] = cut
name_rest zero (b ∷ bs) = cond (eqb b 62) (whole []) bad
name_rest (suc k) (b ∷ bs) = cond (eqb b 62) (whole []) (cond (name_part b) (over (b ∷◌) (name_rest k bs)) bad)

unfoldable pub scan_name : List ℕ → Scan (List ℕ)
scan_name [] = cut
scan_name (b ∷ bs) = cond (name_start b) (over (b ∷◌) (name_rest 31 bs)) bad

-- what stands behind a `<`
unfoldable pub scan_tag : List ℕ → Scan Form
scan_tag [] = cut
scan_tag (b ∷ bs) = cond (eqb b 47) (over end_of (scan_name bs)) (over start_of (scan_name (b ∷ bs)))

unfoldable pub scan_word : {A : Type 0} → A → List ℕ → List ℕ → Scan A
scan_word a [] bs = whole a
scan_word a (w ∷ ws) [] = cut
scan_word a (w ∷ ws) (b ∷ bs) = cond (eqb b w) (scan_word a ws bs) bad

-- what stands behind a `&`: the first of these references that it is, or of which it is the beginning
unfoldable pub scan_among : List Reference → List ℕ → Scan Reference
scan_among [] bs = bad
scan_among (r ∷ rs) bs = or_else (scan_word r (letters r) bs) (scan_among rs bs)

unfoldable pub scan_reference : List ℕ → Scan Reference
scan_reference bs = scan_among (lt ∷ gt ∷ amp ∷ quot ∷ apos ∷ []) bs

unfoldable pub scan : List ℕ → Scan Form
scan [] = cut
scan (b ∷ bs) = cond (is_text b) (whole (text_of b)) (cond (eqb b 60) (scan_tag bs) (cond (eqb b 38) (over ref_of (scan_reference bs)) bad))
