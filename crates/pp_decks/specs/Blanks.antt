-- Parts of a line: its columns, and the blanks at its end.
use Rattle.std.specs.Prelude.{ℕ, ◌==◌, ◌-◌, Bool, List, [], ◌∷◌, length, take}
use Rattle.std.specs.List.{list_any, suffix_len}

-- What is a blank at the end of a line.
abbrev pub BLANKS : List ℕ
BLANKS = 9 ∷ 10 ∷ 11 ∷ 12 ∷ 13 ∷ 28 ∷ 29 ∷ 30 ∷ 31 ∷ 32 ∷ []

abbrev pub is_among : List ℕ → ℕ → Bool
is_among symbols symbol = list_any (λ one. one == symbol) symbols

-- The length of a text without the symbols at its end that are among some.
abbrev pub length_without : List ℕ → List ℕ → ℕ
length_without ends text = length text - suffix_len (is_among ends) text

abbrev pub without_end : List ℕ → List ℕ → List ℕ
without_end ends text = take (length_without ends text) text

-- The columns of a line that a statement has.
abbrev pub in_columns : List ℕ → List ℕ
in_columns line = take 72 line
