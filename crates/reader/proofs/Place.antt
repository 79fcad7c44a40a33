-- A name and a word, as the code looks for them. Assumes nothing.
--
--   rest-prefix   a name ends behind the bytes at the front that names may have, if its `>` stands there
--   Placed        a name of so many bytes stands at the front, its `>` behind it
--   scan-starts   the bytes begin with a word, or the word with them
use Rattle.std.proofs.Common.{◌≡◌, ℕ, zero, suc, ◌+◌, ◌-◌, ◌<◌, ◌≤◌, refl, sym, ap, ◌∙◌, Bool, true, false, ◌&&◌, cond, List, [], ◌∷◌, ◌++◌, length, get_or, take, drop, append_assoc, length-append, T, Ok, Err, arith}
use Rattle.std.proofs.Math.Dec.{eqb}
use Rattle.std.proofs.lemmas.Bool.{ne_eqb}
use Rattle.std.proofs.lemmas.List.{length-take-le}
use Rattle.std.proofs.Math.ListN.{drop_of_length-le}
use Rattle.std.proofs.Math.Seq.{drop-cons, take_at, take-length}
use Rattle.std.specs.List.{prefix_len, starts_with}
use Rattle.table.specs.Format.{is_name}
use Rattle.alphabet.specs.Classes.{name_start, name_part}
use Rattle.reader.specs.declared.found.Refusal.TheVariants.{Byte, Cut}
use Rattle.reader.specs.Place.{end_at}
use Rattle.reader.specs.Scan.{Scan, whole, cut, bad, over, name_rest, scan_name, scan_word}
use Rattle.reader.proofs.Scan.{part_not_end, name_front}

-- a name, where a `>` stands behind it
abbrev closed : (n bs : List ℕ) → Scan (List ℕ)
closed n [] = cut
closed n (b ∷ bs) = cond (eqb b 62) (whole n) bad

longer : (b : ℕ) (n bs : List ℕ) → over (b ∷◌) (closed n bs) ≡ closed (b ∷ n) bs
longer b n [] = refl
longer b n (c ∷ bs) = go (eqb c 62)
  where
    go : (t : Bool) → over (b ∷◌) (cond t (whole n) bad) ≡ cond t (whole (b ∷ n)) bad
    go true = refl
    go false = refl

-- the bytes at the front that names may have, k at most
abbrev parts : ℕ → List ℕ → ℕ
parts k bs = prefix_len name_part (take k bs)

rest-prefix : (k : ℕ) (bs : List ℕ) → name_rest k bs ≡ closed (take (parts k bs) bs) (drop (parts k bs) bs)
unfolding name_rest
rest-prefix zero [] = refl
rest-prefix (suc k) [] = refl
rest-prefix zero (b ∷ bs) = refl
rest-prefix (suc k) (b ∷ bs) = go (name_part b) refl (rest-prefix k bs)
  where
    go : (t : Bool) → name_part b ≡ t → name_rest k bs ≡ closed (take (parts k bs) bs) (drop (parts k bs) bs)
        → cond (eqb b 62) (whole []) (cond t (over (b ∷◌) (name_rest k bs)) bad) ≡ closed (take (cond t (1 + parts k bs) 0) (b ∷ bs)) (drop (cond t (1 + parts k bs) 0) (b ∷ bs))
    go true e h =
        let n : 1 + parts k bs ≡ suc (parts k bs) = omega arith in
        rw (part_not_end b e, h, n) (longer b (take (parts k bs) bs) (drop (parts k bs) bs))
    go false e h = refl

module _ (l : List ℕ) where
  pub name_none : length l ≡ 0 → Err Cut ≡ end_at (scan_name l)
  unfolding end_at scan_name
  name_none h = rw (drop_of_length-le l {i = 0} (omega arith))

  pub name_not : 0 < length l → name_start (get_or l 0 0) ≡ false → Err Byte ≡ end_at (scan_name l)
  unfolding end_at scan_name
  name_not h e = go l h e
    where
      go : (bs : List ℕ) → 0 < length bs → name_start (get_or bs 0 0) ≡ false → Err Byte ≡ end_at (scan_name bs)
      go [] h e = absurd (omega arith)
      go (b ∷ bs) h e = rw e

  -- behind a name's first byte b, the m bytes that names may have
  module _ (b m : ℕ) (f : b ≡ get_or l 0 0) (s : name_start b ≡ true) (i : 0 < length l) (p : m ≡ prefix_len name_part (take 31 (take (length l - 1) (drop 1 l)))) where
    scanned : scan_name l ≡ closed (take (1 + m) l) (drop (1 + m) l)
    unfolding scan_name
    scanned = go l (ap name_start (sym f) ∙ s) i p
      where
        go : (bs : List ℕ) → name_start (get_or bs 0 0) ≡ true → 0 < length bs → m ≡ parts 31 (take (length bs - 1) (drop 1 bs)) → scan_name bs ≡ closed (take (1 + m) bs) (drop (1 + m) bs)
        go [] t h q = absurd (omega arith)
        go (c ∷ bs) t h q =
            let e : length (c ∷ bs) - 1 ≡ length bs = omega arith in
            let n : m ≡ parts 31 bs = q ∙ rw (e, take-length bs) in
            let z : 1 + m ≡ suc m = omega arith in
            rw (t, z, n) (rw (rest-prefix 31 bs) (longer c (take (parts 31 bs) bs) (drop (parts 31 bs) bs)))

    pub name_cut : length l ≤ 1 + m → Err Cut ≡ end_at (scan_name l)
    unfolding end_at
    name_cut h = rw (scanned, drop_of_length-le l {i = 1 + m} h)

    pub name_ends : 1 + m < length l → get_or l (1 + m) 0 ≡ 62 → Ok (1 + m) ≡ end_at (scan_name l)
    unfolding end_at
    name_ends h e = rw (scanned, drop-cons l (1 + m) 0 h, e) (ap Ok (sym (length-take-le (1 + m) l (omega arith))))

    pub name_bad : 1 + m < length l → (get_or l (1 + m) 0 ≡ 62 → ⊥) → Err Byte ≡ end_at (scan_name l)
    unfolding end_at
    name_bad h e = rw (scanned, drop-cons l (1 + m) 0 h, ne_eqb (get_or l (1 + m) 0) 62 e)

pub name_within : (l n : List ℕ) → scan_name l ≡ whole n → length n < length l
name_within l n e =
    let m : T (is_name n) × (c : List ℕ) × (l ≡ (n ++ (62 ∷ [])) ++ c) = name_front l n e in
    omega (arith, simp length-append at (ap length m.2))

-- a name of k bytes at the front, its `>` behind it
pub record Placed (l : List ℕ) (k : ℕ) : Type 0 where
  pub within : k < length l
  pub name : scan_name l ≡ whole (take k l)

placed_of : (l : List ℕ) (k : ℕ) (r : Scan (List ℕ)) → scan_name l ≡ r → Ok k ≡ end_at r → Placed l k
unfolding end_at
placed_of l k (whole n) e h =
    let t : k ≡ length n = cc in
    let m : T (is_name n) × (c : List ℕ) × (l ≡ (n ++ (62 ∷ [])) ++ c) = name_front l n e in
    record {
      within = omega (arith, name_within l n e);
      name = e ∙ ap whole (sym (ap (take k) (m.2 ∙ append_assoc n (62 ∷ []) m.1) ∙ take_at n (62 ∷ m.1) k (sym t)));
    }
placed_of l k cut e h = cc
placed_of l k bad e h = cc

pub placed : (l : List ℕ) (k : ℕ) → Ok k ≡ end_at (scan_name l) → Placed l k
placed l k h = placed_of l k (scan_name l) refl h

same_test : (a b : ℕ) → eqb a b ≡ eqb b a
same_test a b = grind arith

pub scan-starts : {A : Type 0} (a : A) (ws bs : List ℕ) → scan_word a ws bs ≡ cond (starts_with eqb bs ws) (whole a) (cond (starts_with eqb ws bs) cut bad)
unfolding scan_word
scan-starts a [] bs = refl
scan-starts a (w ∷ ws) [] = refl
scan-starts {A} a (w ∷ ws) (b ∷ bs) = rw (same_test b w) (go (eqb w b) (scan-starts a ws bs))
  where
    go : (t : Bool) → scan_word a ws bs ≡ cond (starts_with eqb bs ws) (whole a) (cond (starts_with eqb ws bs) cut bad)
        → cond t (scan_word a ws bs) bad ≡ cond (t && starts_with eqb bs ws) (whole a) (cond (t && starts_with eqb ws bs) cut bad)
    go true h = h
    go false h = refl

-- what the check uses to prove the functions over names and over words
pub ruleset name_laws = (name_none, name_not, name_cut, name_ends, name_bad)

pub ruleset word_laws = (scan-starts)
