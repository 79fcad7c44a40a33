-- What a scan byte by byte must do to be exact, and what follows of it: `more`, `front_whole` and `whole_front`, `part_cut` and
-- `cut_part`, `neither_bad`. Assumes nothing.
--
--   Means       what a result says of the bytes: whole, they begin with what was found; cut, they are the beginning of
--               something allowed and not all of it; bad, and with whatever bytes behind them they stay bad
--   over_means  a scan behind fixed bytes; `or_means`: one scan, or else another
use Rattle.std.proofs.Common.{ℕ, suc, ◌+◌, ◌≡◌, refl, sym, ap, ◌∙◌, subst, List, [], ◌∷◌, ◌++◌, append_assoc, append-nil, arith, length, length-append}
use Rattle.reader.specs.Scan.{Scan, whole, cut, bad, over, or_else}

module _ {A : Type 0} (spell : A → List ℕ) (ok : A → Type 0) where
  -- bytes that have something allowed at their front; bytes that something allowed has at its front
  abbrev pub Front : List ℕ → Type 0
  Front bs = (a : A) × ok a × (c : List ℕ) × (bs ≡ spell a ++ c)

  abbrev pub Part : List ℕ → Type 0
  Part bs = (a : A) × ok a × (b : ℕ) × (c : List ℕ) × (bs ++ (b ∷ c) ≡ spell a)

  module _ (s : List ℕ → Scan A) where
    abbrev pub Means : List ℕ → Scan A → Type 0
    Means bs (whole a) = ok a × (c : List ℕ) × (bs ≡ spell a ++ c)
    Means bs cut = Part bs
    Means bs bad = (c : List ℕ) → s (bs ++ c) ≡ bad

    module _ (finds : (a : A) (c : List ℕ) → ok a → s (spell a ++ c) ≡ whole a) (means : (bs : List ℕ) → Means bs (s bs)) where
      more_of : (bs c : List ℕ) (r : Scan A) → Means bs r → (r ≡ cut → ⊥) → s (bs ++ c) ≡ r
      more_of bs c (whole a) m n = ap (λ (l : List ℕ). s (l ++ c)) m.2 ∙ ap s (append_assoc (spell a) m.1 c) ∙ finds a (m.1 ++ c) m.0
      more_of bs c cut m n = absurd (n refl)
      more_of bs c bad m n = m c

      -- bytes behind what is found, or behind what is bad, change nothing
      pub more : (bs c : List ℕ) → (s bs ≡ cut → ⊥) → s (bs ++ c) ≡ s bs
      more bs c n = more_of bs c (s bs) (means bs) n

      pub front_whole : (bs : List ℕ) (f : Front bs) → s bs ≡ whole f.0
      front_whole bs f = ap s f.3 ∙ finds f.0 f.2 f.1

      part_whole : (bs : List ℕ) (p : Part bs) → s (bs ++ (p.2 ∷ p.3)) ≡ whole p.0
      part_whole bs p = ap s (p.4 ∙ sym (append-nil (spell p.0))) ∙ finds p.0 [] p.1

      -- what is found in the beginning of something is not all of it
      part_of : (bs : List ℕ) (p : Part bs) (r : Scan A) → s bs ≡ r → Means bs r → r ≡ cut
      part_of bs p (whole a) e m =
          let w : s (bs ++ (p.2 ∷ p.3)) ≡ whole a = more_of bs (p.2 ∷ p.3) (whole a) m (λ z. let y : ◌≡◌ {A = ℕ} 0 1 = cc in omega arith) in
          let same : a ≡ p.0 = cc (part_whole bs p) in
          let long : length (spell p.0) ≡ length bs + suc (length p.3) = ap length (sym p.4) ∙ length-append bs (p.2 ∷ p.3) in
          let short : length bs ≡ length (spell p.0) + length m.1 = ap length m.2 ∙ length-append (spell a) m.1 ∙ ap (λ (x : A). length (spell x) + length m.1) same in
          absurd (omega arith)
      part_of bs p cut e m = refl
      part_of bs p bad e m = let z : ◌≡◌ {A = ℕ} 0 1 = cc (part_whole bs p, m (p.2 ∷ p.3)) in absurd (omega arith)

      pub part_cut : (bs : List ℕ) → Part bs → s bs ≡ cut
      part_cut bs p = part_of bs p (s bs) refl (means bs)

      pub cut_part : (bs : List ℕ) → s bs ≡ cut → Part bs
      cut_part bs e = subst (Means bs) e (means bs)

      pub whole_front : (bs : List ℕ) (a : A) → s bs ≡ whole a → ok a × (c : List ℕ) × (bs ≡ spell a ++ c)
      whole_front bs a e = subst (Means bs) e (means bs)

      bad_of : (bs : List ℕ) (r : Scan A) → s bs ≡ r → (Front bs → ⊥) → (Part bs → ⊥) → s bs ≡ bad
      bad_of bs (whole a) e f p = absurd (f (a, (whole_front bs a e).0, (whole_front bs a e).1, (whole_front bs a e).2))
      bad_of bs cut e f p = absurd (p (cut_part bs e))
      bad_of bs bad e f p = e

      -- whatever is neither is bad
      pub neither_bad : (bs : List ℕ) → (Front bs → ⊥) → (Part bs → ⊥) → s bs ≡ bad
      neither_bad bs f p = bad_of bs (s bs) refl f p

-- a scan s' that goes on behind the bytes p as s does from there on
module _ {A B : Type 0} (spell : A → List ℕ) (ok : A → Type 0) (spell' : B → List ℕ) (ok' : B → Type 0) (f : A → B) (p : List ℕ)
    (s : List ℕ → Scan A) (s' : List ℕ → Scan B)
    (oks : (a : A) → ok a → ok' (f a)) (spells : (a : A) → ok a → spell' (f a) ≡ p ++ spell a) where
  pub over_means : (bs : List ℕ) → ((c : List ℕ) → s' (p ++ (bs ++ c)) ≡ over f (s (bs ++ c))) → (r : Scan A) → Means spell ok s bs r → Means spell' ok' s' (p ++ bs) (over f r)
  over_means bs scans (whole a) m = (oks a m.0, m.1, ap (p ++◌) m.2 ∙ sym (append_assoc p (spell a) m.1) ∙ ap (◌++ m.1) (sym (spells a m.0)))
  over_means bs scans cut m = (f m.0, oks m.0 m.1, m.2, m.3, append_assoc p bs (m.2 ∷ m.3) ∙ ap (p ++◌) m.4 ∙ sym (spells m.0 m.1))
  over_means bs scans bad m = λ c. ap s' (append_assoc p bs c) ∙ scans c ∙ ap (over f) (m c)

-- the second of two scans where the first is bad
module _ {A : Type 0} (spell : A → List ℕ) (ok : A → Type 0) (s₁ s₂ : List ℕ → Scan A) (bs : List ℕ) where
  pub or_means : (r₁ r₂ : Scan A) → Means spell ok s₁ bs r₁ → Means spell ok s₂ bs r₂ → Means spell ok (λ xs. or_else (s₁ xs) (s₂ xs)) bs (or_else r₁ r₂)
  or_means (whole a) r₂ m n = m
  or_means cut r₂ m n = m
  or_means bad (whole a) m n = n
  or_means bad cut m n = n
  or_means bad bad m n = λ c. rw (m c) (n c)
