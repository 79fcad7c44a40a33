-- The reader's answer, read off the principle: an event for bytes that begin with one, 11 for bytes that are the beginning of one,
-- 4 for all others. Assumes nothing.
--
--   read-begins, read-cut, read-bad     which bytes get which answer, whatever the table
--   begins-read, cut-read, bad-read     no other bytes get it
--   unknown_read, read_unknown          5 for a whole tag alone, exactly where its name is not in the table
--   read_more                           bytes behind an event, or behind what is none, change nothing
--   read_taken                          what is taken lies in the bytes, and is not nothing
--   read_known                          an event's name is one of the names, its character a leaf
--   read-once                           no second answer fits
use Rattle.std.proofs.lemmas.List.{take_rest}
use Rattle.std.proofs.Common.{◌≡◌, ℕ, ◌+◌, ◌≤◌, ◌<◌, refl, sym, ap, ◌∙◌, Bool, true, false, cond, not, ◌&&◌, ◌||◌, List, [], ◌∷◌, ◌++◌, ◌⊎◌, inl, inr, ⊎_elim, length, get_or, drop, length-append, T, Result, Ok, Err, arith, take, ◌-◌}
use Rattle.std.proofs.Math.Dec.{eqb, ltb}
use Rattle.std.proofs.lemmas.Bool.{ne_eqb, ltb-true, ltb-false}
use Rattle.alphabet.specs.Classes.{between, is_markup, is_text, is_leaf}
use Rattle.table.specs.Format.{number_of}
use Rattle.reader.specs.declared.found.Event.{Event}
use Rattle.reader.specs.declared.found.Event.TheVariants.{Start, End, Character}
use Rattle.reader.specs.declared.found.Found.{Found}
use Rattle.reader.specs.declared.found.Refusal
use Rattle.reader.specs.declared.found.Refusal.{Refusal}
use Rattle.reader.specs.declared.found.Refusal.TheVariants.{Byte, Name}
use Rattle.reader.specs.Form.{Begins, Reference, lt, gt, amp, quot, apos, Form, start_of, end_of, text_of, ref_of, spelling, Allowed, Cut}
use Rattle.reader.specs.Read.{number, taken, named, found_of, answered, read_event}
use Rattle.reader.specs.Scan.{whole, cut, Scan, bad, over, scan_tag, scan_reference, scan}
use Rattle.reader.proofs.Exact.{Front, Part, more, front_whole, part_cut, cut_part, whole_front, neither_bad}
use Rattle.table.proofs.Numbers.{number_at, number_least}
use Rattle.reader.proofs.Scan.{scan_finds, scan_means}

-- the first byte tells what is read
module _ (names : List (List ℕ)) where
  pub read_none : (l : List ℕ) → length l ≡ 0 → Err Refusal.TheVariants.Cut ≡ read_event names l
  unfolding read_event answered scan
  read_none [] h = refl
  read_none (b ∷ l) h = absurd (omega arith)

  -- what stands behind a `<`
  pub read_tag : (l : List ℕ) (r : Result Found Refusal) → 1 ≤ length l → get_or l 0 0 ≡ 60 → r ≡ answered names (scan_tag (take (length l - 1) (drop 1 l))) → r ≡ read_event names l
  unfolding read_event scan is_text
  read_tag [] r h b e = absurd (omega arith)
  read_tag (b₁ ∷ l) r h b e = e ∙ rw (take_rest (b₁ ∷ l) 1, b)

  same_answer : (s : Scan Reference) → answered [] (over ref_of s) ≡ answered names (over ref_of s)
  unfolding answered found_of
  same_answer (whole r) = refl
  same_answer cut = refl
  same_answer bad = refl

  -- what stands behind a `&`
  pub read_reference : (l : List ℕ) (r : Result Found Refusal) → 1 ≤ length l → get_or l 0 0 ≡ 38 → r ≡ answered [] (over ref_of (scan_reference (take (length l - 1) (drop 1 l)))) → r ≡ read_event names l
  unfolding read_event scan is_text
  read_reference [] r h b e = absurd (omega arith)
  read_reference (b₁ ∷ l) r h b e = e ∙ same_answer (scan_reference (take (length (b₁ ∷ l) - 1) (drop 1 (b₁ ∷ l)))) ∙ rw (take_rest (b₁ ∷ l) 1, b)

  pub read_text : (l : List ℕ) → 1 ≤ length l → is_text (get_or l 0 0) ≡ true → ◌≡◌ {A = Result Found Refusal} (Ok (record { event = Character (get_or l 0 0); taken = 1 })) (read_event names l)
  unfolding read_event answered found_of scan
  read_text [] h e = absurd (omega arith)
  read_text (b ∷ l) h e = rw e

  pub read_other : (l : List ℕ) → 1 ≤ length l → is_text (get_or l 0 0) ≡ false → (get_or l 0 0 ≡ 60 → ⊥) → (get_or l 0 0 ≡ 38 → ⊥) → Err Byte ≡ read_event names l
  unfolding read_event answered scan
  read_other [] h e b d = absurd (omega arith)
  read_other (b₁ ∷ l) h e b d = rw (e, ne_eqb b₁ 60 b, ne_eqb b₁ 38 d)

front_of : {bs : List ℕ} → Begins bs → Front spelling Allowed bs
front_of b = (b.form, b.allowed, b.behind, b.bytes)

of_front : (bs : List ℕ) → Front spelling Allowed bs → Begins bs
of_front bs f = record { form = f.0; allowed = f.1; behind = f.2; bytes = f.3 }

part_of : {bs : List ℕ} → Cut bs → Part spelling Allowed bs
part_of c = (c.form, c.allowed, c.next, c.more, c.bytes)

of_part : (bs : List ℕ) → Part spelling Allowed bs → Cut bs
of_part bs p = record { form = p.0; allowed = p.1; next = p.2; more = p.3; bytes = p.4 }

-- the name of a tag is not among the names
abbrev pub Unknown : List (List ℕ) → Form → Type 0
Unknown names (start_of n) = (i : ℕ) → i < length names → get_or names i [] ≡ n → ⊥
Unknown names (end_of n) = (i : ℕ) → i < length names → get_or names i [] ≡ n → ⊥
Unknown names (text_of b) = ⊥
Unknown names (ref_of r) = ⊥

-- an event's name is one of the names, its character a leaf
abbrev pub Known : List (List ℕ) → Event → Type 0
Known names (Start n) = n < length names
Known names (End n) = n < length names
Known names (Character c) = T (is_leaf c)

abbrev pub Sound : List (List ℕ) → Result Found Refusal → Type 0
Sound names (Ok f) = Known names f.event
Sound names (Err r) = Unit {0}

first : (x y : Bool) → T (x && y) → T x
first true y t = tt
first false y t = t

text_leaf : (b : ℕ) → T (is_text b) → T (is_leaf b)
unfolding is_text is_leaf
text_leaf b h = first (eqb b 9 || (eqb b 10 || (eqb b 13 || between 32 126 b))) (not (is_markup b)) h

spelled_some : (f : Form) → 0 < length (spelling f)
spelled_some (start_of n) = omega arith
spelled_some (end_of n) = omega arith
spelled_some (text_of b) = omega arith
spelled_some (ref_of r) = omega arith

abbrev starting : List ℕ → ℕ → Found
starting n m = record { event = Start m; taken = length (spelling (start_of n)) }

abbrev ending : List ℕ → ℕ → Found
ending n m = record { event = End m; taken = length (spelling (end_of n)) }

module _ (names : List (List ℕ)) where
  named-case : (n : List ℕ) (found : ℕ → Found) (P : Result Found Refusal → Type 0) → (number_of names n < length names → P (Ok (found (number_of names n)))) → (length names ≤ number_of names n → P (Err Name)) → P (named names n found)
  named-case n found P k u = go (ltb (number_of names n) (length names)) refl
    where
      go : (t : Bool) → ltb (number_of names n) (length names) ≡ t → P (cond t (Ok (found (number_of names n))) (Err Name))
      go true e = k (ltb-true (number_of names n) (length names) e)
      go false e = u (ltb-false (number_of names n) (length names) e)

  -- a form's answer is an event or 5
  found_number : (f : Form) → (number (found_of names f) ≡ 0) ⊎ (number (found_of names f) ≡ 5)
  unfolding found_of
  found_number (start_of n) = named-case n (starting n) (λ f. (number f ≡ 0) ⊎ (number f ≡ 5)) (λ h. inl refl) (λ h. inr refl)
  found_number (end_of n) = named-case n (ending n) (λ f. (number f ≡ 0) ⊎ (number f ≡ 5)) (λ h. inl refl) (λ h. inr refl)
  found_number (text_of b) = inl refl
  found_number (ref_of r) = inl refl

  found_not : (f : Form) (k : ℕ) → (k ≡ 0 → ⊥) → (k ≡ 5 → ⊥) → number (found_of names f) ≡ k → ⊥
  found_not f k z v e = ⊎_elim (λ a. z (sym e ∙ a)) (λ a. v (sym e ∙ a)) (found_number f)

  absent : (n : List ℕ) → length names ≤ number_of names n → (i : ℕ) → i < length names → get_or names i [] ≡ n → ⊥
  absent n h i l e = let m : number_of names n ≤ i = number_least n names i l e in omega arith

  found_unknown : (f : Form) → number (found_of names f) ≡ 5 → Unknown names f
  unfolding found_of
  found_unknown (start_of n) = named-case n (starting n) (λ f. number f ≡ 5 → Unknown names (start_of n)) (λ h e. let z : ◌≡◌ {A = ℕ} 0 5 = e in absurd (omega arith)) (λ h e. absent n h)
  found_unknown (end_of n) = named-case n (ending n) (λ f. number f ≡ 5 → Unknown names (end_of n)) (λ h e. let z : ◌≡◌ {A = ℕ} 0 5 = e in absurd (omega arith)) (λ h e. absent n h)
  found_unknown (text_of b) = λ e. let z : ◌≡◌ {A = ℕ} 0 5 = e in omega arith
  found_unknown (ref_of r) = λ e. let z : ◌≡◌ {A = ℕ} 0 5 = e in omega arith

  unknown_found : (f : Form) → Unknown names f → found_of names f ≡ Err Name
  unfolding found_of
  unknown_found (start_of n) u = named-case n (starting n) (λ f. f ≡ Err Name) (λ h. absurd (u (number_of names n) h (number_at n names h))) (λ h. refl)
  unknown_found (end_of n) u = named-case n (ending n) (λ f. f ≡ Err Name) (λ h. absurd (u (number_of names n) h (number_at n names h))) (λ h. refl)
  unknown_found (text_of b) u = absurd u
  unknown_found (ref_of r) u = absurd u

  found_taken : (f : Form) → number (found_of names f) ≡ 0 → taken (found_of names f) ≡ length (spelling f)
  unfolding found_of
  found_taken (start_of n) = named-case n (starting n) (λ f. number f ≡ 0 → taken f ≡ length (spelling (start_of n))) (λ h e. refl) (λ h e. let z : ◌≡◌ {A = ℕ} 5 0 = e in absurd (omega arith))
  found_taken (end_of n) = named-case n (ending n) (λ f. number f ≡ 0 → taken f ≡ length (spelling (end_of n))) (λ h e. refl) (λ h e. let z : ◌≡◌ {A = ℕ} 5 0 = e in absurd (omega arith))
  found_taken (text_of b) = λ e. refl
  found_taken (ref_of r) = λ e. refl

  found_known : (f : Form) → Allowed f → Sound names (found_of names f)
  unfolding found_of is_leaf is_text
  found_known (start_of n) a = named-case n (starting n) (Sound names) (λ h. h) (λ h. tt)
  found_known (end_of n) a = named-case n (ending n) (Sound names) (λ h. h) (λ h. tt)
  found_known (text_of b) a = text_leaf b a
  found_known (ref_of lt) a = tt
  found_known (ref_of gt) a = tt
  found_known (ref_of amp) a = tt
  found_known (ref_of quot) a = tt
  found_known (ref_of apos) a = tt

  module _ (bs : List ℕ) where
    pub read-begins : (b : Begins bs) → read_event names bs ≡ found_of names b.form
    unfolding read_event answered front_of
    read-begins b = ap (answered names) (front_whole spelling Allowed scan scan_finds scan_means bs (front_of b))

    pub read-cut : Cut bs → read_event names bs ≡ Err Refusal.TheVariants.Cut
    unfolding read_event answered
    read-cut c = ap (answered names) (part_cut spelling Allowed scan scan_finds scan_means bs (part_of c))

    pub read-bad : (Begins bs → ⊥) → (Cut bs → ⊥) → read_event names bs ≡ Err Byte
    unfolding read_event answered
    read-bad f p = ap (answered names) (neither_bad spelling Allowed scan scan_finds scan_means bs (λ x. f (of_front bs x)) (λ x. p (of_part bs x)))

    cut_of : (s : Scan Form) → scan bs ≡ s → number (answered names s) ≡ 11 → Cut bs
    unfolding answered
    cut_of (whole f) e n = absurd (found_not f 11 (λ z. omega arith) (λ z. omega arith) n)
    cut_of cut e n = of_part bs (cut_part spelling Allowed scan scan_finds scan_means bs e)
    cut_of bad e n = let z : ◌≡◌ {A = ℕ} 4 11 = n in absurd (omega arith)

    pub cut-read : number (read_event names bs) ≡ 11 → Cut bs
    unfolding read_event
    cut-read n = cut_of (scan bs) refl n

    pub bad-read : number (read_event names bs) ≡ 4 → (Begins bs → ⊥) × (Cut bs → ⊥)
    bad-read n = (
      λ b. found_not b.form 4 (λ z. omega arith) (λ z. omega arith) (sym (ap number (read-begins b)) ∙ n),
      λ c. let z : ◌≡◌ {A = ℕ} 11 4 = sym (ap number (read-cut c)) ∙ n in omega arith,
    )

    begins_of : (s : Scan Form) → scan bs ≡ s → (number (answered names s) ≡ 4 → ⊥) → (number (answered names s) ≡ 11 → ⊥) → Begins bs
    unfolding answered
    begins_of (whole f) e b c = let w = whole_front spelling Allowed scan scan_finds scan_means bs f e in record { form = f; allowed = w.0; behind = w.1; bytes = w.2 }
    begins_of cut e b c = absurd (c refl)
    begins_of bad e b c = absurd (b refl)

    pub begins-read : (number (read_event names bs) ≡ 4 → ⊥) → (number (read_event names bs) ≡ 11 → ⊥) → Begins bs
    unfolding read_event
    begins-read b c = begins_of (scan bs) refl b c

    event-begins : number (read_event names bs) ≡ 0 → Begins bs
    event-begins n = begins-read (λ e. let z : ◌≡◌ {A = ℕ} 0 4 = sym n ∙ e in omega arith) (λ e. let z : ◌≡◌ {A = ℕ} 0 11 = sym n ∙ e in omega arith)

    pub unknown_read : number (read_event names bs) ≡ 5 → (b : Begins bs) × Unknown names b.form
    unknown_read n =
        let b : Begins bs = begins-read (λ e. let z : ◌≡◌ {A = ℕ} 5 4 = sym n ∙ e in omega arith) (λ e. let z : ◌≡◌ {A = ℕ} 5 11 = sym n ∙ e in omega arith) in
        (b, found_unknown b.form (sym (ap number (read-begins b)) ∙ n))

    pub read_unknown : (b : Begins bs) → Unknown names b.form → read_event names bs ≡ Err Name
    read_unknown b u = read-begins b ∙ unknown_found b.form u

    pub read_more : (c : List ℕ) → (number (read_event names bs) ≡ 11 → ⊥) → read_event names (bs ++ c) ≡ read_event names bs
    unfolding read_event answered
    read_more c n = ap (answered names) (more spelling Allowed scan scan_finds scan_means bs c (λ e. n (ap (λ (s : Scan Form). number (answered names s)) e)))

    pub read_taken : number (read_event names bs) ≡ 0 → (0 < taken (read_event names bs)) × (taken (read_event names bs) ≤ length bs)
    read_taken n =
        let b : Begins bs = event-begins n in
        let t : taken (read_event names bs) ≡ length (spelling b.form) = ap taken (read-begins b) ∙ found_taken b.form (sym (ap number (read-begins b)) ∙ n) in
        let l : length bs ≡ length (spelling b.form) + length b.behind = ap length b.bytes ∙ length-append (spelling b.form) b.behind in
        (omega (arith, spelled_some b.form), omega arith)

    sound_of : (s : Scan Form) → scan bs ≡ s → Sound names (answered names s)
    unfolding answered
    sound_of (whole f) e = found_known f (whole_front spelling Allowed scan scan_finds scan_means bs f e).0
    sound_of cut e = tt
    sound_of bad e = tt

    pub read_known : Sound names (read_event names bs)
    unfolding read_event
    read_known = sound_of (scan bs) refl

    -- what `read_event` ensures is one answer
    pub read-once : (r s : Result Found Refusal) → r ≡ read_event names bs → s ≡ read_event names bs → r ≡ s
    read-once r s e f = cc

-- what the check uses to prove `read_event`
pub ruleset event_laws = (read_none, read_tag, read_reference, read_text, read_other)
