-- The cells of a program.
use Rattle.std.specs.Prelude.{ℕ, ◌<◌, List, map, All, Option, None, Some, Bool, true, nat_lt, IsTrue}
use Rattle.std.specs.List.Sorted.{IsStrictlyIncreasing}
use Rattle.pp_notation.specs.declared.program.Cell.{Cell}

-- A cell of the memory has an address and a word of twelve bits.
abbrev pub IsCell : Cell → Type 0
IsCell cell = (cell.address < 0o10000) × (cell.word < 0o10000)

abbrev pub address_of : Cell → ℕ
address_of cell = cell.address

-- The cells of a program are cells of the memory, in the order of their addresses, and each address is there once.
abbrev pub IsProgram : List Cell → Type 0
IsProgram cells = All IsCell cells × IsStrictlyIncreasing (map address_of cells)

-- whether a program that names an address names one of the memory
abbrev pub is_start : Option ℕ → Bool
is_start None = true
is_start (Some address) = nat_lt address 0o10000

-- A processor begins at an address of the memory, if a program names one.
abbrev pub IsStart : Option ℕ → Type 0
IsStart start = IsTrue (is_start start)
