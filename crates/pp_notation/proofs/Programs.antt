-- Programs of which a part has been collected.
use Rattle.std.proofs.Common.{◌≡◌, ℕ, ◌+◌, ◌<◌, List, [], ◌∷◌, ◌++◌, map, All, arith}
use Rattle.std.proofs.lemmas.{Grind.common_steps, List.Elements.All-map, List.Elements.All-push, List.map-append}
use Rattle.std.specs.List.Sorted.{IsStrictlyIncreasing}
use Rattle.pp_notation.specs.Cells.{IsCell, IsProgram, address_of}
use Rattle.pp_notation.specs.declared.program.Cell.{Cell}

-- The cells are a program, all of whose addresses are below a limit.
pub record IsBelow (cells : List Cell) (limit : ℕ) : Type 0 where
  pub program : IsProgram cells
  pub below : All (λ cell. cell.address < limit) cells

-- a cell without a word
pub IsBelow-skip : (cells : List Cell) (limit : ℕ) → IsBelow cells limit → IsBelow cells (limit + 1)
IsBelow-skip cells limit is = record {
  program = is.program;
  below = λ k d h. let less = is.below k d h in omega (arith, less);
}

increasing-push : (xs : List ℕ) (x : ℕ) → IsStrictlyIncreasing xs → All (λ y. y < x) xs → IsStrictlyIncreasing (xs ++ x ∷ [])
increasing-push xs x up below = λ k h.
    let last = below k 0 in
    let next = up k in
    grind (arith, common_steps, last, next)

-- a cell with a word
pub IsBelow-push : (cells : List Cell) (cell : Cell) (limit : ℕ) → IsBelow cells limit → cell.address ≡ limit → IsCell cell →
    IsBelow (cells ++ cell ∷ []) (limit + 1)
IsBelow-push cells cell limit is at is_cell =
    let less = IsBelow-skip cells limit is in record {
      program = (
        All-push IsCell cells cell is.program.0 is_cell,
        rw (map-append address_of cells (cell ∷ [])) (increasing-push (map address_of cells) cell.address is.program.1
            (rw at (All-map (λ address. address < limit) address_of cells is.below))),
      );
      below = All-push (λ other. other.address < limit + 1) cells cell less.below (omega (arith, at));
    }
