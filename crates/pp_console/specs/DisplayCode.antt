-- The symbols of the paper as characters.
use Rattle.std.specs.Prelude.{ℕ, List, nat_lt, if◌then◌else◌, codes, slice_index}

-- The characters of display code, 00 to 77 (octal), in their order. [M20, P26]
unfoldable pub display_code : List ℕ
display_code = codes ":ABCDEFGHIJKLMNOPQRSTUVWXYZ0123456789+-*/()$= ,.#[]%\"_!&'?<>@\\^;"

-- The character of a symbol. The line end is symbol 100 (octal), and its character is the line feed, byte 10 (decimal). [P25]
unfoldable pub character : ℕ → ℕ
character symbol = if nat_lt symbol 0o100 then slice_index display_code symbol else 10
