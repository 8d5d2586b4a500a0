-- Texts in columns, and parts of a text.
use Rattle.std.specs.Prelude.{ℕ, ℤ, pos, negsuc, ◌+◌, ◌-◌, ◌&&◌, nat_le, if◌then◌else◌, List, [], ◌∷◌, ◌++◌, Option, Some, None}
use Rattle.std.specs.Prelude.{codes, length, replicate, take}
use Rattle.std.specs.Char.{is_ascii_whitespace}
use Rattle.std.specs.List.{slice_range, suffix_len}
use Rattle.pp_arith.specs.Octal.{octal_text}

-- A text with blanks up to a width.
abbrev pub in_columns : ℕ → List ℕ → List ℕ
in_columns width text = text ++ replicate (width - length text) 32

-- The text of what there is, or none.
abbrev pub optional : {X : Type 0} → (X → List ℕ) → Option X → List ℕ
optional text None = []
optional text (Some one) = text one

-- A line without the blanks at its end.
unfoldable pub ended : List ℕ → List ℕ
ended line = take (length line - suffix_len is_ascii_whitespace line) line ++ 10 ∷ []

-- A number in octal, with zeros up to a width after its sign.
abbrev pub signed_octal : ℤ → ℕ → List ℕ
signed_octal (pos number) width = octal_text number width
signed_octal (negsuc less) width = codes "-" ++ octal_text (less + 1) width

-- What is between two places of a list, or nothing if they are not in it, in this order.
abbrev pub between : {X : Type 0} → List X → ℕ → ℕ → List X
between all first end = if nat_le first end && nat_le end (length all) then slice_range all first end else []
