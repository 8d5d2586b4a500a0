-- Numbers: digits and their letter.
use Rattle.std.specs.Prelude.{ℕ, ℤ, pos, ◌+◌, ◌-◌, ◌*◌, ◌&&◌, nat_le, Bool, false, Option, Some, None, List, [], ◌∷◌, if◌then◌else◌}
use Rattle.std.specs.List.{list_all}
use Rattle.pp_meaning.specs.declared.expressions.Base.{Base}
use Rattle.pp_meaning.specs.declared.expressions.Base.TheVariants.{Octal, Decimal, Mixed}
use Rattle.pp_meaning.specs.declared.expressions.Radix.{Radix}
use Rattle.pp_meaning.specs.declared.expressions.Radix.TheVariants.{B, O, D, Plain}

-- The number that digits write, after those that write a value.
abbrev pub value_from : ℕ → ℕ → List ℕ → ℕ
value_from radix value [] = value
value_from radix value (digit ∷ digits) = value_from radix (value * radix + (digit - 48)) digits

-- Whether none is above the last digit of a radix.
abbrev pub each_digit : ℕ → List ℕ → Bool
each_digit last digits = list_all (λ digit. nat_le 48 digit && nat_le digit last) digits

-- A number has a digit.
abbrev pub are_digits : ℕ → List ℕ → Bool
are_digits last [] = false
are_digits last (digit ∷ digits) = each_digit last (digit ∷ digits)

abbrev pub octal_number : List ℕ → Option ℤ
octal_number digits = if are_digits 55 digits then Some (pos (value_from 8 0 digits)) else None

abbrev pub decimal_number : List ℕ → Option ℤ
decimal_number digits = if are_digits 57 digits then Some (pos (value_from 10 0 digits)) else None

-- A number that is the same in both.
abbrev pub small : Option ℤ → Option ℤ
small (Some (pos n)) = if nat_le n 7 then Some (pos n) else None
small _ = None

-- Digits without a letter are octal or decimal, as BASE says; before BASE they write a number up to 7.
abbrev pub plain_number : Option Base → List ℕ → Option ℤ
plain_number (Some Octal) digits = octal_number digits
plain_number (Some Mixed) digits = octal_number digits
plain_number (Some Decimal) digits = decimal_number digits
plain_number None digits = small (decimal_number digits)

abbrev pub number_value : Option Base → List ℕ → Radix → Option ℤ
number_value base digits B = octal_number digits
number_value base digits O = octal_number digits
number_value base digits D = decimal_number digits
number_value base digits Plain = plain_number base digits
