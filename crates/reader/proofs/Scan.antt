-- The scan is exact: it finds the allowed form at the front of bytes, and says cut exactly of the beginnings of allowed forms. Assumes nothing.
use Rattle.std.proofs.Common.{ℕ, zero, suc, ◌≤◌, ◌<◌, ◌≡◌, refl, sym, ap, subst, Bool, true, false, cond, ◌&&◌, List, [], ◌∷◌, ◌++◌, arith, T, length}
use Rattle.std.proofs.lemmas.Bool.{eqb-true, ne_eqb, lt-ltb, ltb-true}
use Rattle.std.proofs.Math.Dec.{eqb, ltb}
use Rattle.alphabet.specs.Classes.{name_start, name_part, is_text}
use Rattle.table.specs.Format.{all_parts, is_name}
use Rattle.reader.specs.Form.{Reference, lt, gt, amp, quot, apos, letters, Form, start_of, end_of, text_of, ref_of, spelling, Allowed}
use Rattle.reader.specs.Scan.{Scan, whole, cut, bad, over, name_rest, scan_name, scan_tag, scan_word, scan_among, scan_reference, scan}
use Rattle.reader.proofs.Exact.{Means, over_means, or_means}

both : (a b : Bool) → T (a && b) → (a ≡ true) × T b
both true b t = (refl, t)
both false b t = absurd t

holds : (a : Bool) → T a → a ≡ true
holds true t = refl
holds false t = absurd t

held : (a : Bool) → a ≡ true → T a
held a e = subst T (sym e) tt

pub part_not_end : (b : ℕ) → name_part b ≡ true → eqb b 62 ≡ false
unfolding name_part
part_not_end b h = ne_eqb b 62 (λ e. let z : false ≡ true = rw e at h in let y : ◌≡◌ {A = ℕ} 0 1 = cc in omega arith)

-- a name's further bytes, k at most, and the `>`
abbrev pub closed_by : List ℕ → List ℕ
closed_by n = n ++ (62 ∷ [])

abbrev Parts : ℕ → List ℕ → Type 0
Parts k n = T (all_parts n) × (length n ≤ k)

rest_finds : (k : ℕ) (n c : List ℕ) → Parts k n → name_rest k (closed_by n ++ c) ≡ whole n
unfolding name_rest all_parts
rest_finds zero [] c h = refl
rest_finds (suc k) [] c h = refl
rest_finds zero (b ∷ n) c h = absurd (omega arith)
rest_finds (suc k) (b ∷ n) c h =
    let p : name_part b ≡ true = (both (name_part b) (all_parts n) h.0).0 in
    rw (part_not_end b p, p, rest_finds k n c ((both (name_part b) (all_parts n) h.0).1, omega arith))

rest_means : (k : ℕ) (bs : List ℕ) → Means closed_by (Parts k) (name_rest k) bs (name_rest k bs)
unfolding name_rest all_parts
rest_means k [] = ([], (tt, omega arith), 62, [], refl)
rest_means zero (b ∷ bs) = go (eqb b 62) refl
  where
    go : (t : Bool) → eqb b 62 ≡ t → Means closed_by (Parts zero) (name_rest zero) (b ∷ bs) (cond t (whole []) bad)
    go true e = ((tt, omega arith), bs, ap (◌∷ bs) (eqb-true b 62 e))
    go false e = λ c. rw e
rest_means (suc k) (b ∷ bs) = go (eqb b 62) refl (name_part b) refl (rest_means k bs)
  where
    go : (t : Bool) → eqb b 62 ≡ t → (u : Bool) → name_part b ≡ u → Means closed_by (Parts k) (name_rest k) bs (name_rest k bs)
        → Means closed_by (Parts (suc k)) (name_rest (suc k)) (b ∷ bs) (cond t (whole []) (cond u (over (b ∷◌) (name_rest k bs)) bad))
    go true e u f m = ((tt, omega arith), bs, ap (◌∷ bs) (eqb-true b 62 e))
    go false e true f m =
        over_means closed_by (Parts k) closed_by (Parts (suc k)) (b ∷◌) (b ∷ []) (name_rest k) (name_rest (suc k))
        (λ n h. (rw f h.0, omega (arith, h.1))) (λ n h. refl) bs (λ c. rw (e, f)) (name_rest k bs) m
    go false e false f m = λ c. rw (e, f)

-- a name and the `>`
abbrev pub Named : List ℕ → Type 0
Named n = T (is_name n)

-- a name's first byte and the others
named : (b : ℕ) (n : List ℕ) → Named (b ∷ n) → (name_start b ≡ true) × Parts 31 n
named b n h =
    let p : T (all_parts n && ltb (length n) 32) = (both (name_start b) (all_parts n && ltb (length n) 32) h).1 in
    let q : T (ltb (length n) 32) = (both (all_parts n) (ltb (length n) 32) p).1 in
    let l : length n < 32 = ltb-true (length n) 32 (holds (ltb (length n) 32) q) in
    ((both (name_start b) (all_parts n && ltb (length n) 32) h).0, (held (all_parts n) (both (all_parts n) (ltb (length n) 32) p).0, omega arith))

name_of : (b : ℕ) (n : List ℕ) → name_start b ≡ true → Parts 31 n → Named (b ∷ n)
name_of b n e h = rw (e, holds (all_parts n) h.0) (held (ltb (length n) 32) (lt-ltb (length n) 32 (omega arith)))

name_finds : (n c : List ℕ) → Named n → scan_name (closed_by n ++ c) ≡ whole n
unfolding scan_name
name_finds [] c h = absurd h
name_finds (b ∷ n) c h = rw ((named b n h).0, rest_finds 31 n c (named b n h).1)

name_means : (bs : List ℕ) → Means closed_by Named scan_name bs (scan_name bs)
unfolding scan_name name_start all_parts
name_means [] = (97 ∷ [], tt, 97, 62 ∷ [], refl)
name_means (b ∷ bs) = go (name_start b) refl
  where
    go : (t : Bool) → name_start b ≡ t → Means closed_by Named scan_name (b ∷ bs) (cond t (over (b ∷◌) (name_rest 31 bs)) bad)
    go true e = over_means closed_by (Parts 31) closed_by Named (b ∷◌) (b ∷ []) (name_rest 31) scan_name (λ n h. name_of b n e h) (λ n h. refl) bs (λ c. rw e) (name_rest 31 bs) (rest_means 31 bs)
    go false e = λ c. rw e

-- what is scanned as a name is one, with its `>` behind it
pub name_front : (bs n : List ℕ) → scan_name bs ≡ whole n → Named n × (c : List ℕ) × (bs ≡ closed_by n ++ c)
name_front bs n e = subst (Means closed_by Named scan_name bs) e (name_means bs)

-- what stands behind the `<` of a tag
abbrev behind : Form → List ℕ
behind (start_of n) = closed_by n
behind (end_of n) = 47 ∷ closed_by n
behind (text_of b) = []
behind (ref_of r) = []

abbrev Tag : Form → Type 0
Tag (start_of n) = Named n
Tag (end_of n) = Named n
Tag (text_of b) = ⊥
Tag (ref_of r) = ⊥

start_not_slash : (b : ℕ) → name_start b ≡ true → eqb b 47 ≡ false
unfolding name_start
start_not_slash b h = ne_eqb b 47 (λ e. let z : false ≡ true = rw e at h in let y : ◌≡◌ {A = ℕ} 0 1 = cc in omega arith)

tag_finds : (f : Form) (c : List ℕ) → Tag f → scan_tag (behind f ++ c) ≡ whole f
unfolding scan_tag
tag_finds (start_of []) c h = absurd h
tag_finds (start_of (b ∷ n)) c h = rw (start_not_slash b (named b n h).0, name_finds (b ∷ n) c h)
tag_finds (end_of n) c h = rw (name_finds n c h)
tag_finds (text_of b) c h = absurd h
tag_finds (ref_of r) c h = absurd h

tag_means : (bs : List ℕ) → Means behind Tag scan_tag bs (scan_tag bs)
unfolding scan_tag name_start all_parts
tag_means [] = (start_of (97 ∷ []), tt, 97, 62 ∷ [], refl)
tag_means (b ∷ bs) = go (eqb b 47) refl
  where
    go : (t : Bool) → eqb b 47 ≡ t → Means behind Tag scan_tag (b ∷ bs) (cond t (over end_of (scan_name bs)) (over start_of (scan_name (b ∷ bs))))
    go true e = rw (eqb-true b 47 e) (over_means closed_by Named behind Tag end_of (47 ∷ []) scan_name scan_tag (λ n h. h) (λ n h. refl) bs (λ c. refl) (scan_name bs) (name_means bs))
    go false e = over_means closed_by Named behind Tag start_of [] scan_name scan_tag (λ n h. h) (λ n h. refl) (b ∷ bs) (λ c. rw e) (scan_name (b ∷ bs)) (name_means (b ∷ bs))

-- one reference
module _ (r : Reference) where
  word_step : (w : ℕ) (ws : List ℕ) (b : ℕ) (bs : List ℕ) → eqb b w ≡ true → (t : Scan Reference)
      → Means (λ _. ws) (λ x. x ≡ r) (scan_word r ws) bs t → Means (λ _. w ∷ ws) (λ x. x ≡ r) (scan_word r (w ∷ ws)) (b ∷ bs) t
  unfolding scan_word
  word_step w ws b bs e (whole a) m = (m.0, m.1, rw (eqb-true b w e) (ap (w ∷◌) m.2))
  word_step w ws b bs e cut m = (m.0, m.1, m.2, m.3, rw (eqb-true b w e) (ap (w ∷◌) m.4))
  word_step w ws b bs e bad m = λ c. rw e (m c)

  word_means : (ws bs : List ℕ) → Means (λ _. ws) (λ x. x ≡ r) (scan_word r ws) bs (scan_word r ws bs)
  unfolding scan_word
  word_means [] bs = (refl, bs, refl)
  word_means (w ∷ ws) [] = (r, refl, w, ws, refl)
  word_means (w ∷ ws) (b ∷ bs) = go (eqb b w) refl (word_means ws bs)
    where
      go : (t : Bool) → eqb b w ≡ t → Means (λ _. ws) (λ x. x ≡ r) (scan_word r ws) bs (scan_word r ws bs)
          → Means (λ _. w ∷ ws) (λ x. x ≡ r) (scan_word r (w ∷ ws)) (b ∷ bs) (cond t (scan_word r ws bs) bad)
      go true e m = word_step w ws b bs e (scan_word r ws bs) m
      go false e m = λ c. rw e

  letters_of : (bs : List ℕ) (t : Scan Reference) → Means (λ _. letters r) (λ x. x ≡ r) (scan_word r (letters r)) bs t → Means letters (λ _. Unit {0}) (scan_word r (letters r)) bs t
  letters_of bs (whole a) m = (tt, m.1, rw m.0 m.2)
  letters_of bs cut m = (r, tt, m.2, m.3, m.4)
  letters_of bs bad m = m

  letters_means : (bs : List ℕ) → Means letters (λ _. Unit {0}) (scan_word r (letters r)) bs (scan_word r (letters r) bs)
  letters_means bs = letters_of bs (scan_word r (letters r) bs) (word_means (letters r) bs)

reference_finds : (r : Reference) (c : List ℕ) → scan_reference (letters r ++ c) ≡ whole r
unfolding scan_reference scan_among scan_word
reference_finds lt c = refl
reference_finds gt c = refl
reference_finds amp c = refl
reference_finds quot c = refl
reference_finds apos c = refl

among_means : (rs : List Reference) (bs : List ℕ) → Means letters (λ _. Unit {0}) (scan_among rs) bs (scan_among rs bs)
unfolding scan_among
among_means [] bs = λ c. refl
among_means (r ∷ rs) bs = or_means letters (λ _. Unit {0}) (scan_word r (letters r)) (scan_among rs) bs (scan_word r (letters r) bs) (scan_among rs bs) (letters_means r bs) (among_means rs bs)

pub scan_finds : (f : Form) (c : List ℕ) → Allowed f → scan (spelling f ++ c) ≡ whole f
unfolding scan is_text
scan_finds (start_of n) c h = tag_finds (start_of n) c h
scan_finds (end_of n) c h = tag_finds (end_of n) c h
scan_finds (text_of b) c h = rw (holds (is_text b) h)
scan_finds (ref_of r) c h = rw (reference_finds r c)

over-same : {A : Type 0} (r : Scan A) → over (λ a. a) r ≡ r
over-same (whole a) = refl
over-same cut = refl
over-same bad = refl

tag_allowed : (f : Form) → Tag f → Allowed f × (spelling f ≡ 60 ∷ behind f)
tag_allowed (start_of n) h = (h, refl)
tag_allowed (end_of n) h = (h, refl)
tag_allowed (text_of b) h = absurd h
tag_allowed (ref_of r) h = absurd h

pub scan_means : (bs : List ℕ) → Means spelling Allowed scan bs (scan bs)
unfolding scan is_text scan_reference
scan_means [] = (text_of 32, tt, 32, [], refl)
scan_means (b ∷ bs) = go (is_text b) refl (eqb b 60) refl (eqb b 38) refl
  where
    go : (t : Bool) → is_text b ≡ t → (u : Bool) → eqb b 60 ≡ u → (v : Bool) → eqb b 38 ≡ v
        → Means spelling Allowed scan (b ∷ bs) (cond t (whole (text_of b)) (cond u (scan_tag bs) (cond v (over ref_of (scan_reference bs)) bad)))
    go true e u f v g = (held (is_text b) e, bs, refl)
    go false e true f v g =
        rw (eqb-true b 60 f, ← over-same (scan_tag bs))
        (over_means behind Tag spelling Allowed (λ a. a) (60 ∷ []) scan_tag scan (λ a h. (tag_allowed a h).0) (λ a h. (tag_allowed a h).1) bs (λ c. sym (over-same (scan_tag (bs ++ c)))) (scan_tag bs) (tag_means bs))
    go false e false f true g =
        rw (eqb-true b 38 g)
        (over_means letters (λ _. Unit {0}) spelling Allowed ref_of (38 ∷ []) scan_reference scan (λ a h. tt) (λ a h. refl) bs (λ c. refl) (scan_reference bs) (among_means _ bs))
    go false e false f false g = λ c. rw (e, f, g)
