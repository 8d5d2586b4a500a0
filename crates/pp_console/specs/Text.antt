-- Numbers in lines of text.
use Rattle.std.specs.Prelude.{ℕ, List, ◌++◌}
use Rattle.pp_arith.specs.Octal.{octal_digits}

-- A name, and a number in octal with this many digits, leading zeros too. All numbers of an answer are octal.
unfoldable pub field : List ℕ → ℕ → ℕ → List ℕ
field name digits value = name ++ octal_digits digits value
