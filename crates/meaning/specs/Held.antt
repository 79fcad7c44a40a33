-- The held expression and its rewriting by one event. Assumes nothing.
--
-- Document 002, definition 5 (temporary expressions), definitions 6 and 8 (the transition); document 01, "The held
-- expression". A waiting call holds the number of end tags that it waits for: document 01's level is that number and one,
-- 002's q[i + 1] is `wait q i`.
--
--   Expr        a held expression: ε           nothing
--                                  opening n e a start tag, and e behind it
--                                  closing n e an end tag
--                                  chr c e     a character
--                                  wait q i es e  a call of state q that waits for i end tags, with the arguments es
--   match_of     the rule that an event picks; `name_of`, `char_of`: the matched name and character
--   level_of     where a call of the right side waits: after a start, children for 0 end tags and siblings for 1; after a
--               character, siblings for 0; after an end or a finish there is nothing to call
--   target      what an event does to a call that waits for i end tags: `none`, it is rewritten (i is 0; at $ every i,
--               definition 8), or `some j`, it then waits for j
--   instance    a right side with its calls waiting and the rewritten arguments vs for its values, before the expression k
--   step        ⟨e, χ⟩: one event rewrites all calls, also those inside arguments
--   settled     the part before the first outermost call, which is handed out; `held`: the rest
--   after       what is held after events; `handed`: what they handed out, joined
--   last_step    document 01's finish to the letter: "as end, for level 1"; a call at any other level is left as it is
--   Begins      nothing is held, or what is held begins with a call
--   initial     one call of state 0 at level 1 with empty arguments
use Rattle.std.specs.Prelude.{ℕ, zero, suc, List, [], ◌∷◌, ◌++◌}
use Rattle.std.proofs.Math.Option.{Option, none, some}
use Rattle.meaning.specs.Event.{Event, start, char, end, finish}
use Rattle.meaning.specs.Forest.{start_tag, end_tag, character, Stream}
use Rattle.meaning.specs.Rules.{Source, children, siblings, Match, on_empty, on_element, on_character, Rhs, done, element, matched, letter, matched_letter, value, call, RArgs, no_arg, arg, Table}

mutual
  pub data Expr : Type 0 where
    ε : Expr
    opening : ℕ → Expr → Expr
    closing : ℕ → Expr → Expr
    chr : ℕ → Expr → Expr
    wait : ℕ → ℕ → Args → Expr → Expr

  pub data Args : Type 0 where
    ∅ : Args
    also : Expr → Args → Args

abbrev pub match_of : Event → Match
match_of (start n) = on_element n
match_of (char c) = on_character
match_of (end n) = on_empty
match_of finish = on_empty

abbrev pub name_of : Event → ℕ
name_of (start n) = n
name_of (char c) = 0
name_of (end n) = 0
name_of finish = 0

abbrev pub char_of : Event → ℕ
char_of (start n) = 0
char_of (char c) = c
char_of (end n) = 0
char_of finish = 0

abbrev pub level_of : Event → Source → Option ℕ
level_of (start n) children = some 0
level_of (start n) siblings = some 1
level_of (char c) children = none
level_of (char c) siblings = some 0
level_of (end n) x = none
level_of finish x = none

abbrev pub waits : Option ℕ → ℕ → Args → Expr → Expr
waits none q es e = e
waits (some i) q es e = wait q i es e

abbrev pub target : Event → ℕ → Option ℕ
target (start n) zero = none
target (start n) (suc i) = some (suc (suc i))
target (char c) zero = none
target (char c) (suc i) = some (suc i)
target (end n) zero = none
target (end n) (suc i) = some i
target finish i = none

-- one expression behind another
unfoldable pub join : Expr → Expr → Expr
join ε k = k
join (opening n e) k = opening n (join e k)
join (closing n e) k = closing n (join e k)
join (chr c e) k = chr c (join e k)
join (wait q i es e) k = wait q i es (join e k)

-- the argument j, ε where there is none
unfoldable pub argument : Args → ℕ → Expr
argument ∅ j = ε
argument (also e es) zero = e
argument (also e es) (suc j) = argument es j

module _ (v : Event) (vs : Args) where
  unfoldable mutual
    pub instance : Rhs → Expr → Expr
    instance done k = k
    instance (element m b r) k = opening m (instance b (closing m (instance r k)))
    instance (matched b r) k = opening (name_of v) (instance b (closing (name_of v) (instance r k)))
    instance (letter d r) k = chr d (instance r k)
    instance (matched_letter r) k = chr (char_of v) (instance r k)
    instance (value j r) k = join (argument vs j) (instance r k)
    instance (call x q rs r) k = waits (level_of v x) q (instances rs) (instance r k)

    pub instances : RArgs → Args
    instances no_arg = ∅
    instances (arg r rs) = also (instance r ε) (instances rs)

-- a call that the event rewrites, or moves
abbrev pub rewritten : Table → Event → ℕ → Option ℕ → Args → Expr → Expr
rewritten M v q none es e = instance v es (M.rule q (match_of v)) e
rewritten M v q (some i) es e = wait q i es e

module _ (M : Table) (v : Event) where
  unfoldable mutual
    pub step : Expr → Expr
    step ε = ε
    step (opening n e) = opening n (step e)
    step (closing n e) = closing n (step e)
    step (chr c e) = chr c (step e)
    step (wait q i es e) = rewritten M v q (target v i) (steps es) (step e)

    pub steps : Args → Args
    steps ∅ = ∅
    steps (also e es) = also (step e) (steps es)

abbrev pub last_call : Table → ℕ → ℕ → Args → Expr → Expr
last_call M q zero es e = instance finish es (M.rule q on_empty) e
last_call M q (suc i) es e = wait q (suc i) es e

module _ (M : Table) where
  unfoldable mutual
    pub last_step : Expr → Expr
    last_step ε = ε
    last_step (opening n e) = opening n (last_step e)
    last_step (closing n e) = closing n (last_step e)
    last_step (chr c e) = chr c (last_step e)
    last_step (wait q i es e) = last_call M q i (last_steps es) (last_step e)

    pub last_steps : Args → Args
    last_steps ∅ = ∅
    last_steps (also e es) = also (last_step e) (last_steps es)

unfoldable pub settled : Expr → Stream
settled ε = []
settled (opening n e) = start_tag n ∷ settled e
settled (closing n e) = end_tag n ∷ settled e
settled (chr c e) = character c ∷ settled e
settled (wait q i es e) = []

unfoldable pub held : Expr → Expr
held ε = ε
held (opening n e) = held e
held (closing n e) = held e
held (chr c e) = held e
held (wait q i es e) = wait q i es e

abbrev pub Begins : Expr → Type 0
Begins ε = Unit {0}
Begins (opening n e) = ⊥
Begins (closing n e) = ⊥
Begins (chr c e) = ⊥
Begins (wait q i es e) = Unit {0}

-- tokens in front of an expression
unfoldable pub before : Stream → Expr → Expr
before [] k = k
before (start_tag n ∷ s) k = opening n (before s k)
before (end_tag n ∷ s) k = closing n (before s k)
before (character c ∷ s) k = chr c (before s k)

unfoldable pub after : Table → List Event → Expr → Expr
after M [] e = e
after M (v ∷ vs) e = after M vs (held (step M v e))

unfoldable pub handed : Table → List Event → Expr → Stream
handed M [] e = []
handed M (v ∷ vs) e = settled (step M v e) ++ handed M vs (held (step M v e))

unfoldable pub blanks : ℕ → Args
blanks zero = ∅
blanks (suc n) = also ε (blanks n)

unfoldable pub initial : Table → Expr
initial M = wait 0 0 (blanks (M.rank 0)) ε
