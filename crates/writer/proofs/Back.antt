-- The way back: what is written is read again, event for event, and the forest is got back. Assumes nothing.
--
--   bytes-item      an item that is a token has the token's bytes
--   empty_element   an empty element is a start tag and an end tag
--   read-bytes      a token's bytes, whatever stands behind them, are read as the token's event, all of them and no more
--   reads-written   the bytes of a forest are read as its events, event by event, to the last byte
--   reads-once      bytes are read as one list of events
--   way_back        whatever is read of a forest's bytes spells the forest
--   bytes-once      no two forests have the same bytes
use Rattle.std.proofs.Common.{ℕ, All, ◌≡◌, refl, sym, ap, ap₂, ◌∙◌, Bool, true, false, cond, not, ◌&&◌, ◌||◌, List, [], ◌∷◌, ◌++◌, map, length, get_or, drop, T, Result, Ok}
use Rattle.std.proofs.Math.Option.{Option, none, some}
use Rattle.std.proofs.lemmas.Bool.{eqb-true, lt-ltb}
use Rattle.std.proofs.lemmas.List.{drop_at}
use Rattle.std.proofs.lemmas.List.Elements.{All-nil, All-cons, All-append, All-head, All-tail}
use Rattle.std.proofs.Math.Dec.{eqb}
use Rattle.alphabet.specs.Classes.{is_text, is_leaf}
use Rattle.meaning.specs.Event.{Event, start, char, end, finish, events, log, spelled}
use Rattle.meaning.specs.Forest.{Forest, nil, node, leaf, Token, start_tag, end_tag, character, Stream, written}
use Rattle.meaning.proofs.Event.{spelled-log}
use Rattle.reader.specs.declared.found.Event.TheVariants.{Character}
use Rattle.reader.specs.declared.found.Found.{Found}
use Rattle.reader.specs.declared.found.Refusal.{Refusal}
use Rattle.reader.specs.Form.{Form, start_of, end_of, text_of, ref_of, lt, gt, amp, Allowed, spelling}
use Rattle.reader.specs.Read.{event_of, taken, found_of, answered, read_event}
use Rattle.reader.specs.Scan.{scan}
use Rattle.reader.proofs.Read.{read-begins}
use Rattle.writer.specs.Back.{event_in, found, Named, Sayable, Known, Reads}
use Rattle.writer.specs.Bytes.{leaf_form, form_of, bytes_of, bytes_of_stream}
use Rattle.writer.specs.Item.{item_bytes, Says}
use Rattle.writer.specs.declared.Item.{Item}
use Rattle.writer.specs.declared.Item.TheVariants as item

pub bytes-item : (names : List (List ℕ)) (i : Item) (t : Token) → Says names i t → item_bytes i ≡ bytes_of names t
unfolding item_bytes bytes_of
bytes-item names (item.Start name) (start_tag n) h = ap (λ (b : List ℕ). spelling (start_of b)) h
bytes-item names (item.Start name) (end_tag n) h = absurd h
bytes-item names (item.Start name) (character d) h = absurd h
bytes-item names (item.End name) (start_tag n) h = absurd h
bytes-item names (item.End name) (end_tag n) h = ap (λ (b : List ℕ). spelling (end_of b)) h
bytes-item names (item.End name) (character d) h = absurd h
bytes-item names (item.Character c) (start_tag n) h = absurd h
bytes-item names (item.Character c) (end_tag n) h = absurd h
bytes-item names (item.Character c) (character d) h = ap (λ (c : ℕ). spelling (leaf_form c)) h

both : (x : Bool) → T x → T (x && true)
both true h = h
both false h = h

abbrev leaf_by : (x y z : Bool) → ℕ → Form
leaf_by x y z c = cond x (ref_of lt) (cond y (ref_of gt) (cond z (ref_of amp) (text_of c)))

-- a leaf is written as an allowed form, and read as itself
leaf_allowed : (c : ℕ) → T (is_leaf c) → Allowed (leaf_form c)
unfolding leaf_form is_leaf is_text
leaf_allowed c h = go (eqb c 60) (eqb c 62) (eqb c 38) refl
  where
    go : (x y z : Bool) → is_text c ≡ (is_leaf c && not (x || (y || z))) → Allowed (leaf_by x y z c)
    go true y z e = tt
    go false true z e = tt
    go false false true e = tt
    go false false false e = rw e (both (is_leaf c) h)

leaf_found : (names : List (List ℕ)) (c : ℕ) → found_of names (leaf_form c) ≡ Ok (record { event = Character c; taken = length (spelling (leaf_form c)) })
unfolding leaf_form found_of
leaf_found names c = go (eqb c 60) (eqb c 62) (eqb c 38) refl refl refl
  where
    go : (x y z : Bool) → eqb c 60 ≡ x → eqb c 62 ≡ y → eqb c 38 ≡ z → found_of names (leaf_by x y z c) ≡ Ok (record { event = Character c; taken = length (spelling (leaf_by x y z c)) })
    go true y z e f g = rw (eqb-true c 60 e) refl
    go false true z e f g = rw (eqb-true c 62 f) refl
    go false false true e f g = rw (eqb-true c 38 g) refl
    go false false false e f g = refl

pub empty_element : (names : List (List ℕ)) (n : ℕ) → bytes_of_stream names (written (node n nil nil)) ≡ spelling (start_of (get_or names n [])) ++ (spelling (end_of (get_or names n [])) ++ [])
unfolding written bytes_of_stream bytes_of
empty_element names n = refl

-- the events of what is written
events-append : (a b : Stream) → map event_in (a ++ b) ≡ map event_in a ++ map event_in b
events-append [] b = refl
events-append (t ∷ a) b = ap (event_in t ∷◌) (events-append a b)

pub events-written : (f : Forest) → map event_in (written f) ≡ events f
unfolding written events
events-written nil = refl
events-written (node n k s) = ap (start n ∷◌) (events-append (written k) (end_tag n ∷ written s) ∙ ap₂ (λ (a b : List Event). a ++ (end n ∷ b)) (events-written k) (events-written s))
events-written (leaf c s) = ap (char c ∷◌) (events-written s)

log_spelled : (f : Forest) → spelled (events f ++ (finish ∷ [])) 0 ≡ f
unfolding log
log_spelled f = spelled-log f

pub written_sayable : (names : List (List ℕ)) (f : Forest) → Known names f → All (Sayable names) (written f)
unfolding written
written_sayable names nil h = All-nil (Sayable names)
written_sayable names (node n k s) h =
    All-cons (Sayable names) (start_tag n) (written k ++ (end_tag n ∷ written s)) h.0
    (All-append (Sayable names) (written k) (end_tag n ∷ written s) (written_sayable names k h.1)
    (All-cons (Sayable names) (end_tag n) (written s) h.0 (written_sayable names s h.2)))
written_sayable names (leaf c s) h = All-cons (Sayable names) (character c) (written s) h.0 (written_sayable names s h.1)

-- no byte, no event
none_read : (names : List (List ℕ)) (bs : List ℕ) (v : Event) → bs ≡ [] → event_of (read_event names bs) ≡ some v → ⊥
unfolding read_event answered scan
none_read names [] v e h = let z : ◌≡◌ {A = Option Event} none (some v) = h in cc
none_read names (b ∷ bs) v e h = cc

pub reads-once : (names : List (List ℕ)) (bs : List ℕ) (vs ws : List Event) → Reads names bs vs → Reads names bs ws → vs ≡ ws
reads-once names bs [] [] h k = refl
reads-once names bs [] (w ∷ ws) h k = absurd (none_read names bs w h k.0)
reads-once names bs (v ∷ vs) [] h k = absurd (none_read names bs v k h.0)
reads-once names bs (v ∷ vs) (w ∷ ws) h k = ap₂ ◌∷◌ (let e : ◌≡◌ {A = Option Event} (some v) (some w) = sym h.0 ∙ k.0 in cc) (reads-once names (drop (taken (read_event names bs)) bs) vs ws h.1 k.1)

module _ (names : List (List ℕ)) (N : Named names) where
  form_allowed : (t : Token) → Sayable names t → Allowed (form_of names t)
  form_allowed (start_tag n) h = N.each n h
  form_allowed (end_tag n) h = N.each n h
  form_allowed (character c) h = leaf_allowed c h

  form_found : (t : Token) → Sayable names t → found_of names (form_of names t) ≡ Ok (found names t)
  unfolding found_of bytes_of
  form_found (start_tag n) h = rw (N.once n h, lt-ltb n (length names) h) refl
  form_found (end_tag n) h = rw (N.once n h, lt-ltb n (length names) h) refl
  form_found (character c) h = leaf_found names c

  pub read-bytes : (t : Token) (c : List ℕ) → Sayable names t → read_event names (bytes_of names t ++ c) ≡ Ok (found names t)
  unfolding bytes_of
  read-bytes t c h = read-begins names (bytes_of names t ++ c) (record { form = form_of names t; allowed = form_allowed t h; behind = c; bytes = refl }) ∙ form_found t h

  event_found : (t : Token) → event_of (Ok (found names t)) ≡ some (event_in t)
  event_found (start_tag n) = refl
  event_found (end_tag n) = refl
  event_found (character c) = refl

  pub reads-tokens : (ts : Stream) → All (Sayable names) ts → Reads names (bytes_of_stream names ts) (map event_in ts)
  unfolding bytes_of_stream
  reads-tokens [] h = refl
  reads-tokens (t ∷ ts) h =
      let e : read_event names (bytes_of names t ++ bytes_of_stream names ts) ≡ Ok (found names t) = read-bytes t (bytes_of_stream names ts) (All-head (Sayable names) t ts h) in
      let d : drop (taken (read_event names (bytes_of names t ++ bytes_of_stream names ts))) (bytes_of names t ++ bytes_of_stream names ts) ≡ bytes_of_stream names ts =
      ap (λ (r : Result Found Refusal). drop (taken r) (bytes_of names t ++ bytes_of_stream names ts)) e ∙ drop_at (bytes_of names t) (bytes_of_stream names ts) (length (bytes_of names t)) refl in
      (ap event_of e ∙ event_found t, rw d (reads-tokens ts (All-tail (Sayable names) t ts h)))

  pub reads-written : (f : Forest) → Known names f → Reads names (bytes_of_stream names (written f)) (events f)
  reads-written f h = rw (sym (events-written f)) (reads-tokens (written f) (written_sayable names f h))

  pub way_back : (f : Forest) → Known names f → (vs : List Event) → Reads names (bytes_of_stream names (written f)) vs → spelled (vs ++ (finish ∷ [])) 0 ≡ f
  way_back f h vs r = ap (λ (ws : List Event). spelled ws 0) (ap (λ (ws : List Event). ws ++ (finish ∷ [])) (reads-once names (bytes_of_stream names (written f)) vs (events f) r (reads-written f h))) ∙ log_spelled f

  pub bytes-once : (f g : Forest) → Known names f → Known names g → bytes_of_stream names (written f) ≡ bytes_of_stream names (written g) → f ≡ g
  bytes-once f g h k e = sym (way_back f h (events f) (reads-written f h)) ∙ way_back g k (events f) (rw (sym e) (reads-written f h))
