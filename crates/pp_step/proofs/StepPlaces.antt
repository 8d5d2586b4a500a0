-- A step of a processor writes only places that the machine has.
use Rattle.std.proofs.Common.{◌≡◌, ℕ, ◌<◌, ◌≤◌, ◌==◌, slice_index, List, All, length, arith}
use Rattle.std.proofs.{lemmas.Bool.Decides.nat_tests, lemmas.Grind.common_steps}
use Rattle.pp_arith.specs.Words60.{split60}
use Rattle.pp_machine.specs.WriteLaws.{AllPlaces-if}
use Rattle.pp_machine.specs.Prelude.{renamed, Has, HasAll, AllPlaces-append, AllPlaces-renamed}
use Rattle.pp_step.proofs.{Numbers.each_row, Swapped.length-loaded}
use Rattle.pp_step.specs.{Codes.number_of, Exchange.loaded}
use Rattle.pp_step.specs.{Step.pp_writes, declared.code.Code.Code, Instruction.InstructionNumbers, Instruction.Mode}
use Rattle.pp_step.specs.{Instruction.address_of, InstructionTable.Row, InstructionTable.row_of, InstructionTable.instruction_at}
use Rattle.pp_step.specs.{PpPlaces.Held, PpPlaces.five_held, PpPlaces.frame_held, PpPlaces.words_held, View.PpView, View.pp_place}
use Rattle.pp_step.specs.declared.code.Code.TheVariants as code

-- ---- addresses of cells

-- a cell has twelve bits, and an address past the memory reads as 0
cell_in : (cells : List ℕ) (k : ℕ) → All (λ cell. cell ≤ 0o7777) cells → slice_index cells k < 4096
cell_in cells k small = grind (arith, common_steps, small k 0)

address_in : (mode : Mode) (d m : ℕ) (cells : List ℕ) → d < 64 → m < 4096 →
    All (λ cell. cell ≤ 0o7777) cells → address_of mode d m cells < 4096
address_in mode d m cells at_most low small = grind (arith, nat_tests, cell_in cells d small)

module _ (size n : ℕ) (is_processor : n < 10) where
  -- outside a block transfer
  effect_held : (c : Code) (i : InstructionNumbers) (s : PpView) → i.address < 4096 →
      length s.central ≡ size → Held size n ((row_of (number_of c)).effect i s)
  effect_held code.Exn i s h words = grind (
    arith,
    AllPlaces-append (λ x. Has size (pp_place n x)),
    frame_held size n is_processor 0 (loaded s.a s.central),
    length-loaded s.a s.central,
    words_held size n is_processor s.a 0 s.frame,
  )
  effect_held _ i s h words = grind (arith, nat_tests, five_held size n is_processor i.d (split60 (slice_index s.central s.a)))

  -- the places of a step's write list, as places of the machine
  pub HasAll-step : (s : PpView) → s.p < 4096 → All (λ cell. cell ≤ 0o7777) s.cells →
      length s.central ≡ size → HasAll size (renamed (pp_place n) (pp_writes s))
  unfolding pp_writes
  HasAll-step s low small words =
      let i = instruction_at s.p s.cells in
      let cells = five_held size n is_processor s.p (split60 (slice_index s.central s.a)) in
      let address = address_in (row_of i.code).mode i.d i.m s.cells (omega arith) (cell_in s.cells _ small) small in
      AllPlaces-renamed (pp_place n) (Has size) (pp_writes s) (AllPlaces-if (λ x. Has size (pp_place n x)) (s.phase == 0) _ _
      (λ outside. each_row (λ (r : Row). Held size n (r.effect i s)) (λ c. effect_held c i s address words) tt i.code)
      (λ inside. grind (arith, nat_tests, cells)))
