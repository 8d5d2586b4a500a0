-- Numbers read in decimal.
use Rattle.std.specs.Char.{is_ascii_digit}
use Rattle.std.specs.List.{list_all}
use Rattle.std.specs.Prelude.{ℕ, ◌&&◌, Bool, List, None, Option, Some, if◌then◌else◌, length, nat_le, nat_lt}
use Rattle.std.specs.Str.Parse.{digits_value}

-- One or more decimal digits and nothing else.
abbrev pub is_decimal : List ℕ → Bool
is_decimal word = nat_lt 0 (length word) && list_all is_ascii_digit word

-- The value of a decimal word, if it is at most `most`.
abbrev pub decimal_read : List ℕ → ℕ → Option ℕ
decimal_read word most = if is_decimal word && nat_le (digits_value 10 word) most then Some (digits_value 10 word) else None
