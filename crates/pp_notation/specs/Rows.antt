-- Cells that follow one another.
use Rattle.std.specs.Prelude.{◌≡◌, ℕ, ◌+◌, ◌<◌, List, [], ◌∷◌, ⊤, Bool, ◌==◌, map, slice_index}
use Rattle.std.specs.List.{list_all}
use Rattle.pp_notation.specs.declared.program.Cell.{Cell}

-- The address of the first cell.
abbrev pub first_address : List Cell → ℕ
first_address [] = 0
first_address (cell ∷ cells) = cell.address

-- Cells whose addresses follow one another, from an address on, with words of twelve bits.
abbrev pub IsRow : ℕ → List Cell → Type 0
IsRow address [] = ⊤
IsRow address (cell ∷ row) = (cell.address ≡ address) × (address < 0o10000) × (cell.word < 0o10000) × IsRow (address + 1) row

-- The address of a cell by its index.
abbrev pub address_at : List Cell → ℕ → ℕ
address_at cells index = slice_index (map (λ cell. cell.address) cells) index

-- The first two cells follow one another, and this is the second word.
abbrev pub IsPair : List Cell → ℕ → Type 0
IsPair (first ∷ second ∷ cells) word =
    (second.address ≡ first.address + 1) × (second.word ≡ word) × (first.address + 1 < 0o10000) × (word < 0o10000)
IsPair cells word = ⊥

-- The words of cells.
abbrev pub words_in : List Cell → List ℕ
words_in = map (λ cell. cell.word)

-- Whether all words of cells are zero.
abbrev pub are_zeros : List Cell → Bool
are_zeros = list_all (λ cell. cell.word == 0)
