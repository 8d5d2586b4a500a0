-- Display code: the symbols in the order of their codes, 00 to 77.
use Rattle.std.specs.Prelude.{ℕ, ◌==◌, List, Option, codes, slice_index_or}
use Rattle.std.specs.List.{position}

abbrev pub display_code : List ℕ
display_code = codes ":ABCDEFGHIJKLMNOPQRSTUVWXYZ0123456789+-*/()$= ,.#[]%\"_!&'?<>@\\^;"

-- The symbol of a code.
abbrev pub symbol : ℕ → ℕ
symbol code = slice_index_or display_code code 0

-- The code of a symbol, if it has one.
unfoldable pub code : ℕ → Option ℕ
code byte = position (λ one. one == byte) display_code
