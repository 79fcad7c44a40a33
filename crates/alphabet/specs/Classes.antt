-- The classes of bytes, as document 01 words them ("The log"). Assumes nothing.
--
--   name_start   "first a letter or `_`"
--   name_part    "then letters, digits, `-`, `_`, `.`"
--   is_text      "Text bytes: 9, 10, 13 and 32 to 126, but not `<`, `>` or a bare `&`"
--   is_leaf      the characters that can be leaves: text bytes, and `<`, `>`, `&`, which the log writes as references. This is
--               the one set of leaf characters: the table's check, the reader, the writer and the record's check cite it
--   class_of     the four as one class, an entry of the table of classes: each class is all that the ones before it are
use Rattle.std.specs.Prelude.{ℕ, Bool, cond, not, ◌&&◌, ◌||◌, eqb, leb}
use Rattle.alphabet.specs.declared.Class.{Class}
use Rattle.alphabet.specs.declared.Class.TheVariants.{Never, Markup, Text, Inside, Front}

abbrev pub between : ℕ → ℕ → ℕ → Bool
between a z b = leb a b && leb b z

abbrev pub is_letter : ℕ → Bool
is_letter b = between 65 90 b || between 97 122 b

abbrev pub is_digit : ℕ → Bool
is_digit b = between 48 57 b

-- <, > and &
abbrev pub is_markup : ℕ → Bool
is_markup b = eqb b 60 || (eqb b 62 || eqb b 38)

unfoldable pub name_start : ℕ → Bool
name_start b = is_letter b || eqb b 95

unfoldable pub name_part : ℕ → Bool
name_part b = is_letter b || (is_digit b || (eqb b 45 || (eqb b 95 || eqb b 46)))

unfoldable pub is_text : ℕ → Bool
is_text b = (eqb b 9 || (eqb b 10 || (eqb b 13 || between 32 126 b))) && not (is_markup b)

unfoldable pub is_leaf : ℕ → Bool
is_leaf b = eqb b 9 || (eqb b 10 || (eqb b 13 || between 32 126 b))

unfoldable pub class_of : ℕ → Class
class_of b = cond (name_start b) Front (cond (name_part b) Inside (cond (is_text b) Text (cond (is_leaf b) Markup Never)))
