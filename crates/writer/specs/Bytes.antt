-- The bytes of tokens: how output is written. Assumes nothing.
--
-- Document 01, "The log": "Output is written the same way: `<`, `>`, `&` as `&lt;`, `&gt;`, `&amp;`, every other leaf as its byte,
-- an empty element as `<a></a>`."
--
--   leaf_form         how a leaf is written
--   form_of           how a token is written, with the names of the table
--   bytes_of          the bytes of a token
--   bytes_of_stream   the bytes of tokens, one after the other
use Rattle.std.specs.Prelude.{ℕ, cond, List, [], ◌∷◌, ◌++◌, eqb, get_or}
use Rattle.meaning.specs.Forest.{Token, start_tag, end_tag, character, Stream}
use Rattle.reader.specs.Form.{Form, start_of, end_of, text_of, ref_of, lt, gt, amp, spelling}

unfoldable pub leaf_form : ℕ → Form
leaf_form c = cond (eqb c 60) (ref_of lt) (cond (eqb c 62) (ref_of gt) (cond (eqb c 38) (ref_of amp) (text_of c)))

abbrev pub form_of : List (List ℕ) → Token → Form
form_of names (start_tag n) = start_of (get_or names n [])
form_of names (end_tag n) = end_of (get_or names n [])
form_of names (character c) = leaf_form c

unfoldable pub bytes_of : List (List ℕ) → Token → List ℕ
bytes_of names t = spelling (form_of names t)

unfoldable pub bytes_of_stream : List (List ℕ) → Stream → List ℕ
bytes_of_stream names [] = []
bytes_of_stream names (t ∷ ts) = bytes_of names t ++ bytes_of_stream names ts
