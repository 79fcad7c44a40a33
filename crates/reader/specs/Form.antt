-- How an event is written, whatever the table: the byte lists that document 01 allows. Assumes nothing.
--
-- Document 01, "The log": "Start tag `<name>`, end tag `</name>`"; "Text bytes: 9, 10, 13 and 32 to 126, but not `<`, `>` or a
-- bare `&`"; "`&lt;` `&gt;` `&amp;` `&quot;` `&apos;` are one leaf each".
--
--   Reference   the five references; `letters`: what stands behind the `&`; `meant`: the leaf
--   Form        an event as it is written: a tag with the bytes of its name, a text byte, a reference
--   spelling    the bytes of a form
--   Allowed     "A name has 1 to 32 bytes: first a letter or `_`, then letters, digits, `-`, `_`, `.`"; a text byte is one
--   Begins      bytes that have an allowed form at their front
--   Cut         bytes that are the beginning of an allowed form, and not the whole of it
use Rattle.std.specs.Prelude.{ℕ, ◌≡◌, List, [], ◌∷◌, ◌++◌, T}
use Rattle.alphabet.specs.Classes.{is_text}
use Rattle.table.specs.Format.{is_name}

pub data Reference : Type 0 where
  lt gt amp quot apos : Reference

abbrev pub letters : Reference → List ℕ
letters lt = 108 ∷ 116 ∷ 59 ∷ []
letters gt = 103 ∷ 116 ∷ 59 ∷ []
letters amp = 97 ∷ 109 ∷ 112 ∷ 59 ∷ []
letters quot = 113 ∷ 117 ∷ 111 ∷ 116 ∷ 59 ∷ []
letters apos = 97 ∷ 112 ∷ 111 ∷ 115 ∷ 59 ∷ []

abbrev pub meant : Reference → ℕ
meant lt = 60
meant gt = 62
meant amp = 38
meant quot = 34
meant apos = 39

pub data Form : Type 0 where
  start_of : List ℕ → Form
  end_of : List ℕ → Form
  text_of : ℕ → Form
  ref_of : Reference → Form

abbrev pub spelling : Form → List ℕ
spelling (start_of n) = 60 ∷ (n ++ (62 ∷ []))
spelling (end_of n) = 60 ∷ 47 ∷ (n ++ (62 ∷ []))
spelling (text_of b) = b ∷ []
spelling (ref_of r) = 38 ∷ letters r

abbrev pub Allowed : Form → Type 0
Allowed (start_of n) = T (is_name n)
Allowed (end_of n) = T (is_name n)
Allowed (text_of b) = T (is_text b)
Allowed (ref_of r) = Unit {0}

pub record Begins (bs : List ℕ) : Type 0 where
  pub form : Form
  pub allowed : Allowed form
  pub behind : List ℕ
  pub bytes : bs ≡ spelling form ++ behind

pub record Cut (bs : List ℕ) : Type 0 where
  pub form : Form
  pub allowed : Allowed form
  pub next : ℕ
  pub more : List ℕ
  pub bytes : bs ++ (next ∷ more) ≡ spelling form
