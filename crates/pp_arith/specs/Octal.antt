-- Numbers as octal text: ASCII digits, most significant first.
use Rattle.std.specs.Prelude.{ℕ, zero, suc, max, ◌+◌, ◌*◌, ◌/◌, ◌%◌, ◌^◌, ◌-◌, nat_le, nat_lt, if◌then◌else◌}
use Rattle.std.specs.Prelude.{Bool, ◌&&◌, List, [], ◌∷◌, length, fold}
use Rattle.std.specs.List.{list_all}

-- The last `digits` octal digits of the value, as ASCII.
unfoldable pub octal_digits : ℕ → ℕ → List ℕ
octal_digits zero value = []
octal_digits (suc digits) value = (48 + value / 8 ^ digits % 8) ∷ octal_digits digits value

-- How many octal digits the value has without leading zeros, among its last `places` digits.
unfoldable pub octal_length : ℕ → ℕ → ℕ
octal_length zero value = 0
octal_length (suc places) value = if nat_le (8 ^ places) value then suc places else octal_length places value

-- The octal digits of a 64-bit value: at least `digits`, with leading zeros, and more if the value needs more.
unfoldable pub octal_text : ℕ → ℕ → List ℕ
octal_text value digits = octal_digits (max digits (octal_length 22 value)) value

-- The value of a list of octal digits, most significant first.
abbrev pub octal_value : List ℕ → ℕ
octal_value digits = fold (λ value digit. value * 8 + (digit - 48)) 0 digits

-- The byte is '0' to '7'.
abbrev pub is_octal_digit : ℕ → Bool
is_octal_digit byte = nat_le 48 byte && nat_le byte 55

-- The word is one or more octal digits and nothing else.
abbrev pub is_octal : List ℕ → Bool
is_octal word = nat_lt 0 (length word) && list_all is_octal_digit word
