-- The way back, whole: what is written of a forest that nests at most 64 deep is read as its events, the nesting takes them, and
-- they spell the forest: `way_back-nested`. Assumes nothing.
use Rattle.std.proofs.Common.{ℕ, ◌≡◌, ◌+◌, ◌≤◌, ◌<◌, refl, ap, ◌∙◌, Bool, cond, List, [], ◌∷◌, ◌++◌, length, append_assoc, Ok, Err, arith}
use Rattle.std.proofs.lemmas.Bool.{lt-ltb, eq-eqb}
use Rattle.meaning.specs.Event.{Event, start, end, finish, events, log, spelled}
use Rattle.meaning.specs.Forest.{Forest, nil, node, leaf, written}
use Rattle.table.specs.Format.{read}
use Rattle.reader.specs.declared.found.Refusal.TheVariants.{Nest, Depth}
use Rattle.reader.specs.Nest.{nested}
use Rattle.reader.specs.Owed.{through}
use Rattle.writer.specs.Back.{Known, Reads, nests}
use Rattle.writer.specs.Bytes.{bytes_of_stream}
use Rattle.writer.proofs.Names.{named-read, way_back-read}
use Rattle.writer.proofs.Back.{reads-written}

-- a start opens, and its end closes
through-start : (o : List ℕ) (n : ℕ) (vs : List Event) → length o < 64 → through (Ok o) (start n ∷ vs) ≡ through (Ok (n ∷ o)) vs
unfolding through nested
through-start o n vs h = ap (λ (t : Bool). through (cond t (Ok (n ∷ o)) (Err Depth)) vs) (lt-ltb (length o) 64 h)

through-end : (o : List ℕ) (n : ℕ) (vs : List Event) → through (Ok (n ∷ o)) (end n ∷ vs) ≡ through (Ok o) vs
unfolding through nested
through-end o n vs = ap (λ (t : Bool). through (cond t (Ok o) (Err Nest)) vs) (eq-eqb n n refl)

-- the events of a forest leave open what was open
through-events : (f : Forest) (o : List ℕ) (vs : List Event) → length o + nests f ≤ 64 → through (Ok o) (events f ++ vs) ≡ through (Ok o) vs
unfolding events through nested nests
through-events nil o vs h = refl
through-events (leaf c s) o vs h = through-events s o vs h
through-events (node n k s) o vs h =
    through-start o n ((events k ++ (end n ∷ events s)) ++ vs) (omega (arith, h))
    ∙ ap (through (Ok (n ∷ o))) (append_assoc (events k) (end n ∷ events s) vs)
    ∙ through-events k (n ∷ o) (end n ∷ (events s ++ vs)) (omega (arith, h))
    ∙ through-end o n (events s ++ vs)
    ∙ through-events s o vs (omega (arith, h))

pub nested-written : (f : Forest) → nests f ≤ 64 → through (Ok []) (log f) ≡ Ok []
unfolding log through nested
nested-written f h = through-events f [] (finish ∷ []) (omega (arith, h))

pub record Back (l : List ℕ) (f : Forest) : Type 0 where
  pub read-as : List Event
  pub reads : Reads (read l).contents.names (bytes_of_stream (read l).contents.names (written f)) read-as
  pub nests : through (Ok []) (read-as ++ (finish ∷ [])) ≡ Ok []
  pub forest : spelled (read-as ++ (finish ∷ [])) 0 ≡ f

pub way_back-nested : (l : List ℕ) (f : Forest) → Known (read l).contents.names f → nests f ≤ 64 → Back l f
unfolding log
way_back-nested l f k h =
    let r = reads-written (read l).contents.names (named-read l) f k in
    record { read-as = events f; reads = r; nests = nested-written f h; forest = way_back-read l f k (events f) r }
