-- Demand 2 over trees: what a run hands out is what the recursive meaning of the rules gives. Assumes nothing.
--
-- The letter: "When a document is accepted, the bytes handed out, joined, are the written form of the forest that the rules'
-- recursive meaning (document 002, definitions 2 and 3) gives for that log. After each event, everything before the first
-- waiting call is out, and no accepted ending contradicts it." `rewriter` carries these to bytes.
use mathlib.Core.Path.{◌≡◌, refl, sym, ap, ◌∙◌}
use mathlib.Core.List.{List, [], ◌∷◌, ◌++◌}
use Rattle.meaning.specs.Event.{Event, events, log, spelled, Matched}
use Rattle.meaning.specs.Forest.{Forest, written}
use Rattle.meaning.specs.Held.{Expr, ε, opening, closing, chr, wait, step, settled, held, Begins, before, after, handed, initial}
use Rattle.meaning.specs.Image.{image}
use Rattle.meaning.specs.Rules.{Table}
use Rattle.meaning.specs.Value.{transformed}
use Rattle.meaning.proofs.Event.{spelled-log, log-spelled}
use Rattle.meaning.proofs.Value.{transformed-image}
use Rattle.meaning.proofs.Whole.{handed-append, whole}

module _ (M : Table) where
  -- document 002, theorem 1, with characters: for every table and every forest
  pub handed-image : (f : Forest) → handed M (log f) (initial M) ≡ written (image M f)
  unfolding log
  handed-image f = whole M (events f) ∙ ap (transformed M) (spelled-log f) ∙ transformed-image M f

  -- the same said of the events that were read: the forest is the one that they spell
  pub handed-spelled : (vs : List Event) → Matched [] vs → handed M vs (initial M) ≡ written (image M (spelled vs 0))
  handed-spelled vs h = ap (λ (l : List Event). handed M l (initial M)) (sym (log-spelled vs h)) ∙ handed-image (spelled vs 0)

  -- "no accepted ending contradicts it": what is out after the events a begins the final stream, for every ending b
  pub out_begins : (a b : List Event) → Matched [] (a ++ b) → handed M a (initial M) ++ handed M b (after M a (initial M)) ≡ written (image M (spelled (a ++ b) 0))
  out_begins a b h = sym (handed-append M a b (initial M)) ∙ handed-spelled (a ++ b) h

  begins-held : (e : Expr) → Begins (held e)
  unfolding held
  begins-held ε = tt
  begins-held (opening n e) = begins-held e
  begins-held (closing n e) = begins-held e
  begins-held (chr c e) = begins-held e
  begins-held (wait q i es e) = tt

  -- "everything before the first waiting call is out": after any events what is held is empty or begins with a call ..
  pub held-begins : (vs : List Event) (e : Expr) → Begins e → Begins (after M vs e)
  unfolding after
  held-begins [] e h = h
  held-begins (v ∷ vs) e h = held-begins vs (held (step M v e)) (begins-held (step M v e))

  pub initial-begins : Begins (initial M)
  unfolding initial
  initial-begins = tt

  -- .. and nothing else was handed out: what an event rewrote is what it handed out, in front of what is held
  pub settled-held : (e : Expr) → before (settled e) (held e) ≡ e
  unfolding before settled held
  settled-held ε = refl
  settled-held (opening n e) = ap (opening n) (settled-held e)
  settled-held (closing n e) = ap (closing n) (settled-held e)
  settled-held (chr c e) = ap (chr c) (settled-held e)
  settled-held (wait q i es e) = refl
