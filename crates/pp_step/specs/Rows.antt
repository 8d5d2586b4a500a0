-- What the instructions write, by shapes that many codes share. P advances to the next instruction, unless a row names
-- another target.
use Rattle.std.specs.Prelude.{ℕ, List, [], ◌∷◌, Bool, if◌then◌else◌, map, slice_index}
use Rattle.std.specs.List.{range_with_len}
use Rattle.pp_arith.specs.Arith.{relative}
use Rattle.pp_machine.specs.Prelude.{Writes, state_number}
use Rattle.pp_machine.specs.{declared.channel.ChannelState.ChannelState, declared.channel.ChannelState.TheVariants.Empty}
use Rattle.pp_step.specs.View.{PpPlace, A, P, Cell, State, Register}
use Rattle.pp_step.specs.{Instruction.InstructionNumbers, Words.cell_after, Words.lower12}

-- The processor continues at p, and nothing else changes. [M6, M13]
abbrev pub jump : ℕ → Writes PpPlace
jump p = (P, p) ∷ []

-- If the condition holds, the processor jumps by d from p, the address of the instruction. [M8]
abbrev pub branch : Bool → InstructionNumbers → ℕ → Writes PpPlace
branch taken i p = jump (if taken then relative p i.d else i.next)

-- If the condition holds, the processor jumps to m. [M13]
abbrev pub test : Bool → InstructionNumbers → Writes PpPlace
test taken i = jump (if taken then i.m else i.next)

-- A number goes to A. [M13]
abbrev pub load : InstructionNumbers → ℕ → Writes PpPlace
load i a = (P, i.next) ∷ (A, a) ∷ []

-- A number goes to the operand's cell. [M12]
abbrev pub store : InstructionNumbers → ℕ → Writes PpPlace
store i value = (P, i.next) ∷ (Cell i.address, value) ∷ []

-- The 18-bit result stays in A, and its lower twelve bits go to the operand's cell. [M12]
abbrev pub replace : InstructionNumbers → ℕ → Writes PpPlace
replace i a = (P, i.next) ∷ (A, a) ∷ (Cell i.address, lower12 a) ∷ []

-- Five numbers go to the five cells from an address on. [P3, P8]
abbrev pub five_cells : ℕ → List ℕ → Writes PpPlace
five_cells address parts = map (λ i. (Cell (cell_after address i), slice_index parts i)) (range_with_len 0 5)

-- If channel d is ready, a number goes from it to A and leaves it empty; else the processor waits, and writes nothing.
-- The manual has the wait; that the channel is tested again in each turn is this project's choice. [M15, P10, P12]
abbrev pub input : Bool → InstructionNumbers → ℕ → Writes PpPlace
input ready i a = if ready then (P, i.next) ∷ (A, a) ∷ (State i.d, state_number Empty) ∷ [] else []

-- If channel d is ready, it gets a state, and a number in its register; else the processor waits, and writes nothing.
-- [M15, P10, P12]
abbrev pub output : Bool → InstructionNumbers → ChannelState → ℕ → Writes PpPlace
output ready i state register =
    if ready then (P, i.next) ∷ (State i.d, state_number state) ∷ (Register i.d, register) ∷ [] else []

-- If channel d is ready, it gets a state, and its register stays; else the processor waits, and writes nothing.
-- [M15, P10, P11, P12]
abbrev pub activity : Bool → InstructionNumbers → ChannelState → Writes PpPlace
activity ready i state = if ready then (P, i.next) ∷ (State i.d, state_number state) ∷ [] else []
