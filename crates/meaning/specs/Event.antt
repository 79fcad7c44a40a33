-- Events, the events of a forest, and the forest that events spell. Assumes nothing.
--
-- Document 002, section 2 (Σ-events and $) and section 3.2 (Parse); a character is an event of its own, a start and an end
-- at once (document 01, "The held expression").
--
--   Event       a start tag, a character, an end tag, or finish, 002's $
--   events      the events of a forest; `log` has the finish behind them
--   spelled     002's Parse[i + 1]: the forest that is read after i more end tags. `spelled vs 0` is the forest that vs spells
--   Matched     a whole log, with the names of the open elements before it, the innermost first: each end tag names the
--               innermost open element, and finish comes once, at the end, with none open
--   allowed     what may come with d elements open; `opened`: how many are open after it
--   Accepted    events that may come one after the other, with d open before them; `opened_by`: how many are open after them
use Rattle.std.specs.Prelude.{ℕ, zero, suc, pred, ◌<◌, ◌≡◌, List, [], ◌∷◌, ◌++◌}
use Rattle.meaning.specs.Forest.{Forest, nil, node, leaf}

pub data Event : Type 0 where
  start : ℕ → Event
  char : ℕ → Event
  end : ℕ → Event
  finish : Event

unfoldable pub events : Forest → List Event
events nil = []
events (node n k s) = start n ∷ (events k ++ (end n ∷ events s))
events (leaf c s) = char c ∷ events s

unfoldable pub log : Forest → List Event
log f = events f ++ (finish ∷ [])

unfoldable pub spelled : List Event → ℕ → Forest
spelled [] i = nil
spelled (start n ∷ vs) zero = node n (spelled vs 0) (spelled vs 1)
spelled (start n ∷ vs) (suc i) = spelled vs (suc (suc i))
spelled (char c ∷ vs) zero = leaf c (spelled vs 0)
spelled (char c ∷ vs) (suc i) = spelled vs (suc i)
spelled (end n ∷ vs) zero = nil
spelled (end n ∷ vs) (suc i) = spelled vs i
spelled (finish ∷ vs) i = nil

abbrev pub Matched : List ℕ → List Event → Type 0
Matched open₁ [] = ⊥
Matched open₁ (start n ∷ vs) = Matched (n ∷ open₁) vs
Matched open₁ (char c ∷ vs) = Matched open₁ vs
Matched [] (end n ∷ vs) = ⊥
Matched (m ∷ open₁) (end n ∷ vs) = (n ≡ m) × Matched open₁ vs
Matched [] (finish ∷ []) = Unit {0}
Matched [] (finish ∷ v ∷ vs) = ⊥
Matched (m ∷ open₁) (finish ∷ vs) = ⊥

abbrev pub allowed : ℕ → Event → Type 0
allowed d (start n) = Unit {0}
allowed d (char c) = Unit {0}
allowed d (end n) = 0 < d
allowed d finish = d ≡ 0

abbrev pub opened : ℕ → Event → ℕ
opened d (start n) = suc d
opened d (char c) = d
opened d (end n) = pred d
opened d finish = d

abbrev pub Accepted : ℕ → List Event → Type 0
Accepted d [] = Unit {0}
Accepted d (v ∷ vs) = allowed d v × Accepted (opened d v) vs

abbrev pub opened_by : ℕ → List Event → ℕ
opened_by d [] = d
opened_by d (v ∷ vs) = opened_by (opened d v) vs
