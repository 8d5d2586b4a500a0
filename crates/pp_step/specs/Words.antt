-- Addresses and parts of words.
use Rattle.std.specs.Prelude.{ℕ, List, ◌+◌, ◌%◌, map, slice_index}
use Rattle.std.specs.List.{range_with_len}
use Rattle.pp_arith.specs.Words60.{join60}

-- The cell i cells after a cell. Cell 7777 is followed by cell 0000. [P3]
abbrev pub cell_after : ℕ → ℕ → ℕ
cell_after address i = (address + i) % 0o10000

-- The central address i words after an address. 777777 is followed by 000000. [M3, P3]
abbrev pub central_after : ℕ → ℕ → ℕ
central_after a i = (a + i) % 0o1000000

-- The lower twelve bits of A. [M12]
abbrev pub lower12 : ℕ → ℕ
lower12 a = a % 0o10000

-- The central word that the five cells from an address on hold, the leftmost twelve bits in the first cell. [P8]
abbrev pub joined_cells : ℕ → List ℕ → ℕ
joined_cells address cells = join60 (map (λ i. slice_index cells (cell_after address i)) (range_with_len 0 5))
