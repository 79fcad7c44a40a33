-- References: the first byte, and behind an `a` the second, tell which of the five it can be. Assumes nothing.
--
--   Only            which reference the bytes can only be: one word is all that is left to compare
--   reference_word  the answer for that word is the answer for the five
use Rattle.std.proofs.Common.{◌≡◌, ℕ, suc, ◌+◌, ◌<◌, ◌≤◌, refl, sym, ap, ◌∙◌, Bool, true, false, cond, List, [], ◌∷◌, length, get_or, drop, add-one, Result, Err, arith}
use Rattle.std.proofs.Math.Dec.{eqb}
use Rattle.std.proofs.lemmas.Bool.{ne_eqb}
use Rattle.std.proofs.Math.ListN.{drop_of_length-le}
use Rattle.std.proofs.Math.Seq.{drop-cons}
use Rattle.reader.specs.declared.found.Found.{Found}
use Rattle.reader.specs.declared.found.Refusal.{Refusal}
use Rattle.reader.specs.declared.found.Refusal.TheVariants.{Byte, Cut}
use Rattle.reader.specs.Form.{Reference, lt, gt, amp, quot, apos, letters, meant, ref_of}
use Rattle.reader.specs.Place.{word_found}
use Rattle.reader.specs.Read.{found_of, answered}
use Rattle.reader.specs.Scan.{Scan, whole, cut, bad, over, or_else, scan_word, scan_among, scan_reference}

or_bad : (s : Scan Reference) → or_else s bad ≡ s
or_bad (whole a) = refl
or_bad cut = refl
or_bad bad = refl

found-answered : (r : Reference) (ws bs : List ℕ) → word_found (suc (length (letters r))) (scan_word (meant r) ws bs) ≡ answered [] (over ref_of (scan_word r ws bs))
unfolding word_found answered found_of scan_word
found-answered r [] bs = refl
found-answered r (w ∷ ws) [] = refl
found-answered r (w ∷ ws) (b ∷ bs) = go (eqb b w) (found-answered r ws bs)
  where
    go : (t : Bool) → word_found (suc (length (letters r))) (scan_word (meant r) ws bs) ≡ answered [] (over ref_of (scan_word r ws bs))
        → word_found (suc (length (letters r))) (cond t (scan_word (meant r) ws bs) bad) ≡ answered [] (over ref_of (cond t (scan_word r ws bs) bad))
    go true e = e
    go false e = refl

module _ (l : List ℕ) where
  -- which reference the bytes behind a `&` can only be
  pub Only : Reference → Type 0
  Only r = scan_reference l ≡ scan_word r (letters r) l

  -- the answer for the word of one reference
  abbrev pub word_answer : Reference → Result Found Refusal
  word_answer r = word_found (length (letters r) + 1) (scan_word (meant r) (letters r) l)

  -- the answer for the five
  abbrev pub answer : Result Found Refusal
  answer = answered [] (over ref_of (scan_reference l))

  pub reference_word : (r : Reference) → Only r → word_answer r ≡ answer
  unfolding Only
  reference_word r o = rw (add-one (length (letters r))) (found-answered r (letters r) l) ∙ ap (λ (s : Scan Reference). answered [] (over ref_of s)) (sym o)

  pub reference_none : length l ≡ 0 → Err Cut ≡ answer
  unfolding answered scan_reference scan_among scan_word
  reference_none h = rw (drop_of_length-le l {i = 0} (omega arith))

  module _ (h : 0 < length l) where
    pub only_lt : get_or l 0 0 ≡ 108 → Only lt
    unfolding Only scan_reference scan_among scan_word
    only_lt e = rw (drop-cons l 0 0 h, e) (or_bad (scan_word lt (116 ∷ 59 ∷ []) (drop 1 l)))

    pub only_gt : get_or l 0 0 ≡ 103 → Only gt
    unfolding Only scan_reference scan_among scan_word
    only_gt e = rw (drop-cons l 0 0 h, e) (or_bad (scan_word gt (116 ∷ 59 ∷ []) (drop 1 l)))

    pub only_quot : get_or l 0 0 ≡ 113 → Only quot
    unfolding Only scan_reference scan_among scan_word
    only_quot e = rw (drop-cons l 0 0 h, e) (or_bad (scan_word quot (117 ∷ 111 ∷ 116 ∷ 59 ∷ []) (drop 1 l)))

    pub only_amp : 1 < length l → get_or l 0 0 ≡ 97 → get_or l 1 0 ≡ 109 → Only amp
    unfolding Only scan_reference scan_among scan_word
    only_amp n e f = rw (drop-cons l 0 0 h, e, drop-cons l 1 0 n, f) (or_bad (scan_word amp (112 ∷ 59 ∷ []) (drop 2 l)))

    pub only_apos : 1 < length l → get_or l 0 0 ≡ 97 → (get_or l 1 0 ≡ 109 → ⊥) → Only apos
    unfolding Only scan_reference scan_among scan_word
    only_apos n e f = rw (drop-cons l 0 0 h, e, drop-cons l 1 0 n, ne_eqb (get_or l 1 0) 109 f) (or_bad (scan_word apos (97 ∷ 112 ∷ 111 ∷ 115 ∷ 59 ∷ []) (97 ∷ get_or l 1 0 ∷ drop 2 l)))

    pub a_cut : get_or l 0 0 ≡ 97 → length l ≤ 1 → Err Cut ≡ answer
    unfolding answered scan_reference scan_among scan_word
    a_cut e n = rw (drop-cons l 0 0 h, e, drop_of_length-le l {i = 1} n)

    pub reference_bad : (get_or l 0 0 ≡ 108 → ⊥) → (get_or l 0 0 ≡ 103 → ⊥) → (get_or l 0 0 ≡ 113 → ⊥) → (get_or l 0 0 ≡ 97 → ⊥) → Err Byte ≡ answer
    unfolding answered scan_reference scan_among scan_word
    reference_bad a b c d = rw (drop-cons l 0 0 h, ne_eqb (get_or l 0 0) 108 a, ne_eqb (get_or l 0 0) 103 b, ne_eqb (get_or l 0 0) 113 c, ne_eqb (get_or l 0 0) 97 d)

    module _ (f : Result Found Refusal) where
      pub reference_lt : get_or l 0 0 ≡ 108 → f ≡ word_answer lt → f ≡ answer
      reference_lt e g = g ∙ reference_word lt (only_lt e)

      pub reference_gt : get_or l 0 0 ≡ 103 → f ≡ word_answer gt → f ≡ answer
      reference_gt e g = g ∙ reference_word gt (only_gt e)

      pub reference_quot : get_or l 0 0 ≡ 113 → f ≡ word_answer quot → f ≡ answer
      reference_quot e g = g ∙ reference_word quot (only_quot e)

      pub reference_amp : 1 < length l → get_or l 0 0 ≡ 97 → get_or l 1 0 ≡ 109 → f ≡ word_answer amp → f ≡ answer
      reference_amp n e a g = g ∙ reference_word amp (only_amp n e a)

      pub reference_apos : 1 < length l → get_or l 0 0 ≡ 97 → (get_or l 1 0 ≡ 109 → ⊥) → f ≡ word_answer apos → f ≡ answer
      reference_apos n e a g = g ∙ reference_word apos (only_apos n e a)

-- what the check uses to prove the function over references
pub ruleset reference_laws = (reference_none, a_cut, reference_bad, reference_lt, reference_gt, reference_quot, reference_amp, reference_apos)
