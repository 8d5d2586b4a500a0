-- The cells of an image.
use Rattle.std.specs.Prelude.{ℕ, suc, List, [], ◌∷◌, ◌++◌, map, Option, Some, None}
use Rattle.pp_notation.specs.declared.program.Cell.{Cell}

abbrev pub address_and_word : Cell → ℕ × ℕ
address_and_word cell = (cell.address, cell.word)

-- The addresses and words of cells.
abbrev pub addressed : List Cell → List (ℕ × ℕ)
addressed = map address_and_word

-- A word at an address, if there is one.
abbrev pub word_at : ℕ → Option ℕ → List (ℕ × ℕ)
word_at address None = []
word_at address (Some word) = (address, word) ∷ []

-- The words of a memory with their addresses, from one on.
abbrev pub filled : ℕ → List (Option ℕ) → List (ℕ × ℕ)
filled address [] = []
filled address (word ∷ memory) = word_at address word ++ filled (suc address) memory
