-- The words of instructions, of operands that are numbers.
use Rattle.std.specs.Prelude.{ℕ, ℤ, pos, negsuc, ◌+◌, ◌-◌, ◌*◌, ◌%◌, ◌^◌, ◌==◌, ◌&&◌, nat_le, Bool, Option, Some, None, List, [], ◌∷◌, bytes_eq, codes, if◌then◌else◌}
use Rattle.pp_notation.specs.InstructionWords.{then_distance}
use Rattle.pp_meaning.specs.Expressions.{address_around}
use Rattle.pp_meaning.specs.Fields.{field}
use Rattle.pp_statements.specs.declared.forms.Way.{Way}

-- A number of so many bits, at most 60: minus is the complement, and -0 is all ones.
abbrev pub field_of_bits : ℕ → Bool → ℤ → Option ℕ
field_of_bits bits is_ones number = if nat_le bits 60 then field (2 ^ bits - 1) is_ones number else None

-- Whether a text is minus zero, which is all ones.
abbrev pub is_minus_zero : List ℕ → Bool
is_minus_zero text = bytes_eq text (codes "-0")

-- The cell of a counter. Cell 0000 follows 7777.
abbrev pub cell_at : ℤ → ℕ
cell_at (pos n) = n % 0o10000
cell_at (negsuc n) = 0o7777 - n % 0o10000

-- d of a relative jump from a counter to a number.
abbrev pub jump : ℤ → ℤ → Option ℕ
jump counter number = then_distance (cell_at counter) (address_around (Some number))

-- d of a jump so many cells on or back.
abbrev pub d_of : Way → Option ℕ
d_of way = if nat_le way.on 0o37 then Some way.on else (if nat_le way.back 0o37 then Some (0o77 - way.back) else None)

abbrev pub then_d : Option Way → Option ℕ
then_d None = None
then_d (Some way) = d_of way

-- LDK and ADK are one word if their number is small: one code is for those without minus, and one for minus, also -0.
abbrev pub short_word : ℕ → ℕ → Bool → ℤ → Option ℕ
short_word small minus is_ones (pos n) =
    if is_ones && n == 0 then Some (minus * 0o100) else (if nat_le n 0o77 then Some (small * 0o100 + n) else None)
short_word small minus is_ones (negsuc n) = if nat_le (n + 1) 0o77 then Some (minus * 0o100 + (n + 1)) else None

-- The two words of a code, d and m.
abbrev pub two_words : ℕ → ℕ → ℕ → List ℕ
two_words code d m = (code * 0o100 + d % 0o100) ∷ (m % 0o10000) ∷ []
