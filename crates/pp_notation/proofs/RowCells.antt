-- Rows of cells: one more cell, and the first two.
use Rattle.std.proofs.Common.{◌≡◌, ℕ, zero, suc, ◌+◌, ◌<◌, ◌≤◌, List, [], ◌∷◌, length, take, All, refl, arith, get_or, add-one}
use Rattle.std.proofs.Common.{◌==◌, ◌&&◌, nat_lt, Bool, true, replicate}
use Rattle.std.proofs.lemmas.Bool.{and_parts, Decides.nat_tests, Decides.Decides-and, Decides.Decides-by_and, Decides.Decides-ltb}
use Rattle.std.proofs.lemmas.{Grind.common_steps, List.Folds.list_all-append}
use Rattle.std.specs.{Bool.Decides, List.list_all}
use Rattle.pp_notation.specs.{Cells.IsCell, declared.program.Cell.Cell}
use Rattle.pp_notation.specs.Rows.{IsPair, IsRow, address_at, are_zeros, first_address, words_in}

row-more : (cells : List Cell) (count address : ℕ) → All IsCell cells → IsRow address (take count cells) → count < length cells →
    address_at cells count ≡ address + count → IsRow address (take (suc count) cells)
row-more [] count address small are within follows = absurd (omega arith)
row-more (cell ∷ cells) zero address small are within follows =
    let own = small 0 cell (omega arith) in (omega arith, omega (arith, own.0), own.1, tt)
row-more (cell ∷ cells) (suc count) address small are within follows = (
  are.0,
  are.1,
  are.2,
  row-more cells count (address + 1) (λ k d l. small (suc k) d (omega arith)) are.3 (omega arith) (omega arith),
)

-- one more cell that follows
pub IsRow-more : (cells : List Cell) (count : ℕ) → All IsCell cells → IsRow (first_address cells) (take count cells) →
    count < length cells → address_at cells count ≡ first_address cells + count →
    IsRow (first_address cells) (take (count + 1) cells)
IsRow-more cells count small are within follows = rw add-one (row-more cells count (first_address cells) small are within follows)

-- the first cell
pub IsRow-one : (cells : List Cell) → All IsCell cells → 0 < length cells → IsRow (first_address cells) (take 1 cells)
IsRow-one [] small some = absurd (omega arith)
IsRow-one (cell ∷ cells) small some = let own = small 0 cell (omega arith) in (refl, own.0, own.1, tt)

-- the first two cells, if they are a pair
pub pair-row : (cells : List Cell) (word : ℕ) → All IsCell cells → IsPair cells word → IsRow (first_address cells) (take 2 cells)
pair-row (first ∷ second ∷ cells) word small pair =
    let own = small 0 first (omega arith) in
    (refl, own.0, own.1, (pair.0, pair.2, omega (arith, pair.1, pair.3), tt))
pair-row (first ∷ []) word small pair = absurd pair
pair-row [] word small pair = absurd pair

pub pair-length : (cells : List Cell) (word : ℕ) → IsPair cells word → 2 ≤ length cells
pair-length (first ∷ second ∷ cells) word pair = omega arith
pair-length (first ∷ []) word pair = absurd pair
pair-length [] word pair = absurd pair

-- the address of a cell, by its index
pub address_at-is : (cells : List Cell) (index : ℕ) (d : Cell) → index < length cells →
    address_at cells index ≡ (get_or cells index d).address
address_at-is [] index d h = absurd (omega arith)
address_at-is (cell ∷ cells) zero d h = refl
address_at-is (cell ∷ cells) (suc index) d h = address_at-is cells index d (omega arith)

pub first_address-is : (cells : List Cell) (d : Cell) → 0 < length cells → first_address cells ≡ (get_or cells 0 d).address
first_address-is [] d h = absurd (omega arith)
first_address-is (cell ∷ cells) d h = refl

-- words of zero
pub zeros-words : (row : List Cell) → are_zeros row ≡ true → replicate (length row) 0 ≡ words_in row
zeros-words [] h = refl
zeros-words (cell ∷ row) h =
    let both = and_parts (cell.word == 0) (are_zeros row) h in
    let own : cell.word ≡ 0 = grind (arith, nat_tests) in
    rw (own, ← zeros-words row both.1) refl

-- one more word of zero
pub zeros-more : (cells : List Cell) (count : ℕ) (d : Cell) → are_zeros (take count cells) ≡ true → count < length cells →
    (get_or cells count d).word ≡ 0 → are_zeros (take (count + 1) cells) ≡ true
zeros-more cells count d zeros within own = grind (arith, common_steps, nat_tests, list_all-append)

pub ruleset zeros = (zeros-words)

-- whether a cell is one of a memory
abbrev pub is_cell : Cell → Bool
is_cell cell = nat_lt cell.address 0o10000 && nat_lt cell.word 0o10000

decides-cell : (cell : Cell) → Decides (is_cell cell) (IsCell cell)
decides-cell cell = Decides-and (nat_lt cell.address 0o10000) (nat_lt cell.word 0o10000) (Decides-ltb cell.address 0o10000)
    (Decides-ltb cell.word 0o10000)

-- whether all cells are of a memory
pub cells-decided : (cells : List Cell) → Decides (list_all is_cell cells) (All IsCell cells)
cells-decided = Decides-by_and is_cell IsCell (list_all is_cell) decides-cell refl (λ _ _. refl)

pub ruleset cells = (cells-decided)

pub ruleset rows = (IsRow-more, IsRow-one, address_at-is, first_address-is)
