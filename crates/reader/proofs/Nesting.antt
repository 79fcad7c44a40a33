-- The fields of what is open, as the code changes them. Assumes nothing.
--
--   canonical_none, canonical_more, canonical_less   the new fields are in the record's form
--   names_more, names_less                           their list: a name more, or the innermost less
use Rattle.std.proofs.Common.{◌≡◌, ℕ, suc, ◌+◌, ◌-◌, ◌<◌, refl, sym, ap, ◌∙◌, List, [], ◌∷◌, length, get_or, set, take, drop, replicate, Ok, Err, arith}
use Rattle.std.proofs.Math.Seq.{drop-cons}
use Rattle.std.proofs.lemmas.Bool.{ne_eqb, eq-eqb, lt-ltb, le-ltb}
use Rattle.std.proofs.lemmas.List.{take_more, take-set, take_more_set, reverse-append, drop-set, drop-set-lt, length-set}
use Rattle.meaning.specs.Event.{start, end, finish}
use Rattle.reader.specs.declared.found.Event as found
use Rattle.reader.specs.declared.found.Event.TheVariants.{Character}
use Rattle.reader.specs.declared.found.Refusal.TheVariants.{Nest, Depth, Cut}
use Rattle.reader.specs.Canonical.{Canonical, open_names, depth-back}
use Rattle.reader.specs.Nest.{nested, meant_event, ended}

pub canonical_none : Canonical (replicate 64 0) 0
canonical_none = record { places = refl; few = omega arith; unused = refl }

one_more : (k : ℕ) → k < 64 → replicate {A = ℕ} (64 - k) 0 ≡ 0 ∷ replicate (64 - (k + 1)) 0
one_more k h = let s : 64 - k ≡ suc (64 - (k + 1)) = omega arith in ap (λ (m : ℕ). replicate m 0) s

module _ (names : List ℕ) (depth : ℕ) (c : Canonical names depth) where
  names_more : (n : ℕ) → depth < 64 → open_names (set names depth n) (depth + 1) ≡ n ∷ open_names names depth
  names_more n h = rw (take_more_set names depth n (omega (arith, c.places))) (reverse-append (take depth names) (n ∷ []))

  more_canonical : (n : ℕ) → depth < 64 → Canonical (set names depth n) (depth + 1)
  more_canonical n h = record {
    places = length-set names depth n ∙ c.places;
    few = omega arith;
    unused =
        let r : get_or names depth 0 ∷ drop (suc depth) names ≡ 0 ∷ replicate {A = ℕ} (64 - (depth + 1)) 0 = sym (drop-cons names depth 0 (omega (arith, c.places))) ∙ c.unused ∙ one_more depth h in
        let s : depth + 1 ≡ suc depth = omega arith in
        drop-set-lt (depth + 1) names depth n (omega arith) ∙ ap (λ (m : ℕ). drop m names) s ∙ ap (drop 1) r;
  }

-- one less than are open
module _ (names : List ℕ) (k : ℕ) (c : Canonical names (k + 1)) where
  inside : k < length names
  inside = omega (arith, c.places, c.few)

  names_less : open_names names (k + 1) ≡ get_or names k 0 ∷ open_names names k
  names_less = rw (take_more names k 0 inside) (reverse-append (take k names) (get_or names k 0 ∷ []))

  less_canonical : Canonical (set names k 0) k
  less_canonical = record {
    places = length-set names k 0 ∙ c.places;
    few = omega (arith, c.few);
    unused = drop-set names k 0 inside ∙ ap (0 ∷◌) c.unused ∙ sym (one_more k (omega (arith, c.few)));
  }

-- what the code does with the fields of the list o
module _ (names : List ℕ) (depth : ℕ) (c : Canonical names depth) where
  fewer : (place : ℕ) → place ≡ depth → (place ≡ 64 → ⊥) → depth < 64
  fewer place p h = omega (arith, c.few, h)

  pub canonical_more : (place n : ℕ) → place ≡ depth → (place ≡ 64 → ⊥) → Canonical (set names place n) (depth + 1)
  canonical_more place n p h = rw p (more_canonical names depth c n (fewer place p h))

  pub canonical_less : (place k : ℕ) → place ≡ k → k + 1 ≡ depth → Canonical (set names place 0) k
  canonical_less place k p h = rw p (less_canonical names k (rw h c))

  module _ (o : List ℕ) (v : open_names names depth ≡ o) where
    pub depth_told : depth ≡ length o
    depth_told = sym (ap length (sym v) ∙ depth-back names depth c)

    pub start_too_deep : (place n : ℕ) → place ≡ 64 → place ≡ depth → Err Depth ≡ nested o (start n)
    unfolding nested
    start_too_deep place n h p = rw (le-ltb (length o) 64 (omega (arith, depth_told)))

    pub start_told : (place n : ℕ) → place ≡ depth → (place ≡ 64 → ⊥) → Ok (open_names (set names place n) (depth + 1)) ≡ nested o (start n)
    unfolding nested
    start_told place n p h = rw (p, lt-ltb (length o) 64 (omega (arith, depth_told, fewer place p h)), names_more names depth c n (fewer place p h), v)

    pub end_of_nothing : (n : ℕ) → depth ≡ 0 → Err Nest ≡ nested o (end n)
    unfolding nested
    end_of_nothing n h = rw (← v, h)

    pub end_told : (place k n : ℕ) → place ≡ k → k + 1 ≡ depth → get_or names place 0 ≡ n → Ok (open_names (set names place 0) k) ≡ nested o (end n)
    unfolding nested
    end_told place k n p h e = rw (p, ← v, ← h, names_less names k (rw h c), take-set names k 0, eq-eqb (get_or names k 0) n (rw (← p) e))

    pub end_of_another : (place k n : ℕ) → place ≡ k → k + 1 ≡ depth → (get_or names place 0 ≡ n → ⊥) → Err Nest ≡ nested o (end n)
    unfolding nested
    end_of_another place k n p h e = rw (← v, ← h, names_less names k (rw h c), ne_eqb (get_or names k 0) n (λ z. e (rw p z)))

    pub finish_told : depth ≡ 0 → Ok tt ≡ ended (nested o finish)
    unfolding nested
    finish_told h = rw (← v, h)

    pub finish_open : (depth ≡ 0 → ⊥) → Err Cut ≡ ended (nested o finish)
    unfolding nested
    finish_open h = go o depth_told
      where
        go : (l : List ℕ) → depth ≡ length l → Err Cut ≡ ended (nested l finish)
        go [] e = absurd (h e)
        go (m ∷ l) e = refl

pub character_told : (o : List ℕ) (event : found.Event) (b : ℕ) → event ≡ Character b → Ok o ≡ nested o (meant_event event)
unfolding nested
character_told o event b h = rw h

-- what the check uses to prove the functions of `Open`
pub ruleset nest_laws = (canonical_none, depth_told, character_told, finish_told, finish_open)

pub ruleset start_laws = (start_too_deep, start_told)

pub ruleset end_laws = (canonical_less, end_of_nothing, end_told, end_of_another)
