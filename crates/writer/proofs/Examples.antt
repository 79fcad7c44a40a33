-- Document 01's bytes of output, letter for letter. Assumes nothing.
use Rattle.std.proofs.Common.{ℕ, ◌≡◌, refl, List, [], ◌∷◌, None}
use Rattle.meaning.specs.Forest.{nil, node, leaf, written}
use Rattle.writer.specs.Bytes.{leaf_form, bytes_of, bytes_of_stream}
use Rattle.writer.specs.Laid.{over, room, laid}

abbrev two_names : List (List ℕ)
two_names = (97 ∷ []) ∷ (98 ∷ 99 ∷ []) ∷ []

-- <a></a>
an_empty_element : bytes_of_stream two_names (written (node 0 nil nil)) ≡ 60 ∷ 97 ∷ 62 ∷ 60 ∷ 47 ∷ 97 ∷ 62 ∷ []
unfolding written bytes_of_stream bytes_of
an_empty_element = refl

-- <, >, & and "x" in bc: <bc>&lt;&gt;&amp;"x"</bc>
all_leaves : bytes_of_stream two_names (written (node 1 (leaf 60 (leaf 62 (leaf 38 (leaf 34 (leaf 120 (leaf 34 nil)))))) nil)) ≡ 60 ∷ 98 ∷ 99 ∷ 62 ∷ 38 ∷ 108 ∷ 116 ∷ 59 ∷ 38 ∷ 103 ∷ 116 ∷ 59 ∷ 38 ∷ 97 ∷ 109 ∷ 112 ∷ 59 ∷ 34 ∷ 120 ∷ 34 ∷ 60 ∷ 47 ∷ 98 ∷ 99 ∷ 62 ∷ []
unfolding written bytes_of_stream bytes_of leaf_form
all_leaves = refl

-- the second byte of four is the first free one: three bytes fit, to the end, and four do not
it_fits : laid (1 ∷ 2 ∷ 3 ∷ 4 ∷ []) 1 (60 ∷ 97 ∷ 62 ∷ []) ≡ 1 ∷ 60 ∷ 97 ∷ 62 ∷ []
unfolding laid over
it_fits = refl

it_stays : laid (1 ∷ 2 ∷ 3 ∷ 4 ∷ []) 1 (60 ∷ 47 ∷ 97 ∷ 62 ∷ []) ≡ 1 ∷ 2 ∷ 3 ∷ 4 ∷ []
unfolding laid over
it_stays = refl

past_the_end : room (1 ∷ 2 ∷ []) 9 (120 ∷ []) ≡ None
unfolding room
past_the_end = refl
