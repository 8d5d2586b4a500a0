-- Letters, digits and blanks of a line.
use Rattle.std.specs.Prelude.{ℕ, ◌+◌, ◌==◌, ◌&&◌, ◌||◌, nat_le, Bool, false, Option, Some, None, List, [], ◌∷◌, drop, option_map, take}
use Rattle.std.specs.List.{position, prefix_len}
use Rattle.pp_decks.specs.Blanks.{is_among}

abbrev pub is_digit : ℕ → Bool
is_digit c = nat_le 48 c && nat_le c 57

-- A capital letter or a digit.
abbrev pub is_alphanumeric : ℕ → Bool
is_alphanumeric c = nat_le 65 c && nat_le c 90 || is_digit c

-- How many digits a text begins with.
abbrev pub digits_size : List ℕ → ℕ
digits_size text = prefix_len is_digit text

-- Whether a text begins with a letter, a digit or one of other symbols.
abbrev pub goes_on : List ℕ → List ℕ → Bool
goes_on others [] = false
goes_on others (c ∷ text) = is_alphanumeric c || is_among others c

-- A blank or a tab.
abbrev pub is_blank : ℕ → Bool
is_blank c = c == 32 || c == 9

-- Where a symbol is in a text.
abbrev pub index_of : ℕ → List ℕ → Option ℕ
index_of symbol text = position (λ one. one == symbol) text

-- The column of a symbol at or after a column.
abbrev pub column_of : ℕ → List ℕ → ℕ → Option ℕ
column_of symbol line from = option_map (λ distance. from + distance) (index_of symbol (drop from line))

-- A text before an index, and behind it.
abbrev pub cut_at : List ℕ → Option ℕ → List ℕ × Option (List ℕ)
cut_at text None = (text, None)
cut_at text (Some index) = (take index text, Some (drop (index + 1) text))
