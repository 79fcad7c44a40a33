-- docs/ENCODING.md's example, and each clause of refusal 13 about words, computed. Assumes nothing.
use Rattle.std.proofs.Common.{ℕ, ◌≡◌, refl, Bool, true, false, not, ◌&&◌, List, [], ◌∷◌}
use Rattle.alphabet.specs.Classes.{is_leaf}
use Rattle.meaning.specs.Event.{start}
use Rattle.meaning.specs.Examples.{Flip}
use Rattle.meaning.specs.Held.{join, argument, instance, step, held, after, blanks, initial}
use Rattle.held.specs.Examples.{flip_like, flip_words, held_words, other_words}
use Rattle.held.specs.Scan.{is_held, begins, scan, fits, owe}
use Rattle.held.specs.Words.{flat, start_word, end_word, call_word, item_of}

fresh_words : flat (initial Flip) ≡ 0x40000001 ∷ 0x50000000 ∷ []
unfolding flat call_word initial blanks
fresh_words = refl

words_after_a : flat (after Flip (start 0 ∷ []) (initial Flip)) ≡ flip_words
unfolding flat start_word end_word call_word after step instance join argument held initial blanks
words_after_a = refl

-- each of the lists gets the answer b, with one element open
abbrev answers : Bool → List (List ℕ) → Bool
answers true [] = true
answers false [] = true
answers true (ws ∷ l) = is_held flip_like 1 ws && answers true l
answers false (ws ∷ l) = not (is_held flip_like 1 ws) && answers false l

held_cases : answers true held_words ≡ true
unfolding held_words begins scan fits owe item_of is_leaf
held_cases = refl

other_cases : answers false other_words ≡ true
unfolding other_words begins scan fits owe item_of is_leaf
other_cases = refl
