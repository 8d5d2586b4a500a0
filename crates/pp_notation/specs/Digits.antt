-- The numbers that digits write.
use Rattle.std.specs.Prelude.{ℕ, ◌+◌, ◌-◌, ◌*◌, List, fold}

-- A number with one more digit behind it.
abbrev pub with_digit : ℕ → ℕ → ℕ → ℕ
with_digit radix number digit = number * radix + (digit - 48)

-- The number that digits write.
abbrev pub number_in : ℕ → List ℕ → ℕ
number_in radix digits = fold (with_digit radix) 0 digits

-- The number that codes of display code make, of two octal digits each.
abbrev pub with_code : ℕ → ℕ → ℕ
with_code number code = number * 0o100 + code

abbrev pub number_of_codes : List ℕ → ℕ
number_of_codes items = fold with_code 0 items
