-- Tags: the number of the name that stands at the front, and the answer for what stands behind a `<`. Assumes nothing.
use Rattle.std.proofs.Common.{◌≡◌, ℕ, suc, ◌+◌, ◌≤◌, refl, ap, Bool, true, false, cond, List, [], ◌∷◌, ◌++◌, length, get_or, take, drop, length-append, Some, None, Result, Ok, Err, arith, ◌-◌}
use Rattle.std.proofs.Math.Dec.{ltb}
use Rattle.std.proofs.lemmas.Bool.{ne_eqb}
use Rattle.std.proofs.lemmas.List.{length-take-le, take_rest}
use Rattle.table.specs.Format.{number_of}
use Rattle.table.specs.Names.{found}
use Rattle.reader.specs.declared.found.Event.{Event}
use Rattle.reader.specs.declared.found.Event.TheVariants.{Start, End}
use Rattle.reader.specs.declared.found.Found.{Found}
use Rattle.reader.specs.declared.found.Refusal.{Refusal}
use Rattle.reader.specs.declared.found.Refusal.TheVariants.{Name, Cut}
use Rattle.reader.specs.Place.{end_at, named_at}
use Rattle.reader.specs.Form.{Form, start_of, end_of}
use Rattle.reader.specs.Read.{named, found_of, answered}
use Rattle.reader.specs.Scan.{Scan, whole, cut, bad, over, scan_name, scan_tag}
use Rattle.reader.proofs.Place.{Placed, placed, name_within}

-- the answers for a name and for a tag
abbrev known : ℕ → ℕ → Result (ℕ × ℕ) Refusal
known r k = Ok (r, k)

abbrev taking : Event → ℕ → Result Found Refusal
taking e k = Ok (record { event = e; taken = k })

both_same : (r k a b : ℕ) → known r k ≡ known a b → (r ≡ a) × (k ≡ b)
both_same r k a b h = let p : ◌≡◌ {A = ℕ × ℕ} (r, k) (a, b) = cc in (ap (λ (x : ℕ × ℕ). x.0) p, ap (λ (x : ℕ × ℕ). x.1) p)

module _ (names : List (List ℕ)) where
  module _ {l : List ℕ} {k : ℕ} (p : Placed l k) where
    long : length (take k l) ≡ k
    long = length-take-le k l (omega (arith, p.within))

    pub named-known : (r : ℕ) → Some r ≡ found names (take k l) → known r (k + 1) ≡ named_at names (scan_name l)
    unfolding named_at
    named-known r e = rw (p.name, long) (go (ltb (number_of names (take k l)) (length names)) e)
      where
        go : (t : Bool) → Some r ≡ cond t (Some (number_of names (take k l))) None → known r (k + 1) ≡ cond t (known (number_of names (take k l)) (k + 1)) (Err Name)
        go true h = cc
        go false h = cc

    pub named_unknown : None ≡ found names (take k l) → Err Name ≡ named_at names (scan_name l)
    unfolding named_at
    named_unknown e = rw p.name (go (ltb (number_of names (take k l)) (length names)) e)
      where
        go : (t : Bool) → None ≡ cond t (Some (number_of names (take k l))) None → Err Name ≡ cond t (known (number_of names (take k l)) (length (take k l) + 1)) (Err Name)
        go true h = cc
        go false h = refl

  pub named-refused : (e : Refusal) (s : Scan (List ℕ)) → Err e ≡ end_at s → Err e ≡ named_at names s
  unfolding end_at named_at
  named-refused e (whole n) h = cc
  named-refused e cut h = cc
  named-refused e bad h = cc

  -- a tag, so many bytes before its name
  module _ (form : List ℕ → Form) (event : ℕ → Event) (ahead : ℕ)
      (is : (n : List ℕ) → found_of names (form n) ≡ named names n (λ m. record { event = event m; taken = length n + 1 + ahead })) where
    tag_known : (r k : ℕ) (s : Scan (List ℕ)) → known r k ≡ named_at names s
        → taking (event r) (k + ahead) ≡ answered names (over form s)
    unfolding named_at answered
    tag_known r k (whole n) e = rw (is n) (go (ltb (number_of names n) (length names)) e)
      where
        go : (t : Bool) → known r k ≡ cond t (known (number_of names n) (length n + 1)) (Err Name)
            → taking (event r) (k + ahead) ≡ cond t (taking (event (number_of names n)) (length n + 1 + ahead)) (Err Name)
        go true h = let p = both_same r k (number_of names n) (length n + 1) h in rw (p.0, p.1)
        go false h = cc
    tag_known r k cut e = cc
    tag_known r k bad e = cc

    tag_refused : (x : Refusal) (s : Scan (List ℕ)) → Err x ≡ named_at names s → Err x ≡ answered names (over form s)
    unfolding named_at answered
    tag_refused x (whole n) e = rw (is n) (go (ltb (number_of names n) (length names)) e)
      where
        go : (t : Bool) → Err x ≡ cond t (known (number_of names n) (length n + 1)) (Err Name)
            → Err x ≡ cond t (taking (event (number_of names n)) (length n + 1 + ahead)) (Err Name)
        go true h = cc
        go false h = cc
    tag_refused x cut e = cc
    tag_refused x bad e = cc

  starts : (n : List ℕ) → found_of names (start_of n) ≡ named names n (λ m. record { event = Start m; taken = length n + 1 + 1 })
  unfolding found_of
  starts n = ap (λ (k : ℕ). named names n (λ m. record { event = Start m; taken = k })) (let k : suc (length (n ++ (62 ∷ []))) ≡ length n + 1 + 1 = omega (arith, length-append n (62 ∷ [])) in k)

  ends : (n : List ℕ) → found_of names (end_of n) ≡ named names n (λ m. record { event = End m; taken = length n + 1 + 2 })
  unfolding found_of
  ends n = ap (λ (k : ℕ). named names n (λ m. record { event = End m; taken = k })) (let k : suc (suc (length (n ++ (62 ∷ [])))) ≡ length n + 1 + 2 = omega (arith, length-append n (62 ∷ [])) in k)

  -- a name that is found lies in the bytes
  within_of : (r k : ℕ) (l : List ℕ) (s : Scan (List ℕ)) → scan_name l ≡ s → known r k ≡ named_at names s → k ≤ length l
  unfolding named_at
  within_of r k l (whole n) f e = let p : k ≡ length n + 1 = go (ltb (number_of names n) (length names)) e in omega (arith, name_within l n f)
    where
      go : (t : Bool) → known r k ≡ cond t (known (number_of names n) (length n + 1)) (Err Name) → k ≡ length n + 1
      go true h = (both_same r k (number_of names n) (length n + 1) h).1
      go false h = cc
  within_of r k l cut f e = cc
  within_of r k l bad f e = cc

  pub known_within : (r k : ℕ) (l : List ℕ) → known r k ≡ named_at names (scan_name l) → k ≤ length l
  known_within r k l e = within_of r k l (scan_name l) refl e

  pub tag_cut : (l : List ℕ) → length l ≡ 0 → Err Cut ≡ answered names (scan_tag l)
  unfolding answered scan_tag
  tag_cut [] h = refl
  tag_cut (b ∷ l) h = absurd (omega arith)

  module _ (l : List ℕ) (h : 1 ≤ length l) (b : get_or l 0 0 ≡ 47) where
    -- what stands behind the slash
    abbrev behind : List ℕ
    behind = take (length l - 1) (drop 1 l)

    behind_slash : scan_tag l ≡ over end_of (scan_name behind)
    unfolding scan_tag
    behind_slash = rw take_rest (go l h b)
      where
        go : (bs : List ℕ) → 1 ≤ length bs → get_or bs 0 0 ≡ 47 → scan_tag bs ≡ over end_of (scan_name (drop 1 bs))
        go [] h b = absurd (omega arith)
        go (c ∷ bs) h b = rw b

    pub end_known : (r k : ℕ) → known r k ≡ named_at names (scan_name behind) → taking (End r) (k + 2) ≡ answered names (scan_tag l)
    end_known r k e = rw behind_slash (tag_known end_of End 2 ends r k (scan_name behind) e)

    pub end_refused : (x : Refusal) → Err x ≡ named_at names (scan_name behind) → Err x ≡ answered names (scan_tag l)
    end_refused x e = rw behind_slash (tag_refused end_of End 2 ends x (scan_name behind) e)

  module _ (l : List ℕ) (b : get_or l 0 0 ≡ 47 → ⊥) where
    no_slash : scan_tag l ≡ over start_of (scan_name l)
    unfolding scan_tag scan_name
    no_slash = go l b
      where
        go : (bs : List ℕ) → (get_or bs 0 0 ≡ 47 → ⊥) → scan_tag bs ≡ over start_of (scan_name bs)
        go [] b = refl
        go (c ∷ bs) b = rw (ne_eqb c 47 b)

    pub start_known : (r k : ℕ) → known r k ≡ named_at names (scan_name l) → taking (Start r) (k + 1) ≡ answered names (scan_tag l)
    start_known r k e = rw no_slash (tag_known start_of Start 1 starts r k (scan_name l) e)

    pub start_refused : (x : Refusal) → Err x ≡ named_at names (scan_name l) → Err x ≡ answered names (scan_tag l)
    start_refused x e = rw no_slash (tag_refused start_of Start 1 starts x (scan_name l) e)

-- what the check uses to prove the functions over tags
pub ruleset tag_laws = (placed, length-take-le, named-known, named_unknown, named-refused, known_within, tag_cut, end_known, end_refused, start_known, start_refused)
