-- Block transfers: 61 and 63 between central memory and cells, 71 and 73 between a channel and cells. While one runs,
-- cell 0000 has the address before the next instruction, P the next cell of the block, and the phase the instruction word.
use Rattle.std.specs.Prelude.{ℕ, [], ◌∷◌, ◌/◌, ◌%◌, ◌-◌, ◌==◌, ◌||◌, if◌then◌else◌, nat_lt, not, length, slice_index}
use Rattle.pp_arith.specs.Words60.{split60}
use Rattle.pp_machine.specs.Prelude.{Writes, state_number}
use Rattle.pp_machine.specs.declared.channel.ChannelState.TheVariants.{Empty, Full}
use Rattle.pp_step.specs.View.{PpView, PpPlace, A, P, Q, Phase, Cell, State, Register, Central}
use Rattle.pp_step.specs.{Channels.is_clock, Channels.is_in, Channels.is_active, Instruction.InstructionNumbers}
use Rattle.pp_step.specs.{Rows.five_cells, Words.cell_after, Words.central_after, Words.joined_cells}

-- ---- the issue

-- 71 and 73 begin: cell 0000 gets P+1, P goes to the first cell of the block, and the phase gets the instruction word.
-- The count is in A. [M17, P16, P17]
abbrev pub issue : InstructionNumbers → PpView → Writes PpPlace
issue i s = (P, i.m) ∷ (Phase, i.word) ∷ (Cell 0, cell_after s.p 1) ∷ []

-- 61 and 63 begin: as 71 and 73 do, but their count is in Q, which gets the old content of cell d. That they use cell
-- 0000 for P is this project's choice. [P15, P16, P17]
abbrev pub issue_counted : InstructionNumbers → PpView → Writes PpPlace
issue_counted i s = (P, i.m) ∷ (Q, slice_index s.cells i.d) ∷ (Phase, i.word) ∷ (Cell 0, cell_after s.p 1) ∷ []

-- ---- each later step

-- The transfer ends, at the address after the one in cell 0000. The manual has this of 71 and 73. [M17, P15, P18]
abbrev pub finish : PpView → Writes PpPlace
finish s = (P, cell_after (slice_index s.cells 0) 1) ∷ (Phase, 0) ∷ []

-- 61: if the count is 0, the transfer ends; else a central word goes to five cells. An address past the size reads as 0,
-- as `slice_index` does. [P15, P18, P19]
abbrev pub central_input : PpView → Writes PpPlace
central_input s =
    if s.q == 0 then finish s else
    ((P, cell_after s.p 5) ∷ (A, central_after s.a 1) ∷ (Q, s.q - 1) ∷ five_cells s.p (split60 (slice_index s.central s.a)))

-- 63: if the count is 0, the transfer ends; else five cells go to a central word. An address past the size is not
-- written. [P15, P18, P19]
abbrev pub central_output : PpView → Writes PpPlace
central_output s =
    if s.q == 0 then finish s else
    ((P, cell_after s.p 5) ∷ (A, central_after s.a 1) ∷ (Q, s.q - 1) ∷
    (if nat_lt s.a (length s.central) then (Central s.a, joined_cells s.p s.cells) ∷ [] else []))

-- 71: if the count in A is 0, the transfer ends. Channel 14 supplies the clock. If the channel is inactive, cell P becomes
-- 0, and then the transfer ends: if P is 0000, the address in cell 0000 itself becomes 0 first. If the channel is full
-- with data, the data goes to cell P and leaves the channel empty; else the processor waits. [M17, P12, P14, P18]
abbrev pub channel_input : ℕ → PpView → Writes PpPlace
channel_input d s =
    if s.a == 0 then finish s else
    (if is_clock d then (P, cell_after s.p 1) ∷ (A, s.a - 1) ∷ (Cell s.p, s.clock) ∷ [] else
    (if not (is_active d s.states)
    then (P, cell_after (if s.p == 0 then 0 else slice_index s.cells 0) 1) ∷ (Phase, 0) ∷ (Cell s.p, 0) ∷ [] else
    (if is_in Full d s.states
    then (P, cell_after s.p 1) ∷ (A, s.a - 1) ∷ (Cell s.p, slice_index s.registers d) ∷ (State d, state_number Empty) ∷ []
    else [])))

-- 73: if the count in A is 0 or the channel is inactive, the transfer ends. If the channel is empty, cell P fills it; else
-- the processor waits. So the clock, which is always full, takes no word. [M17, P12, P14, P18]
abbrev pub channel_output : ℕ → PpView → Writes PpPlace
channel_output d s =
    if s.a == 0 || not (is_active d s.states) then finish s else
    (if is_in Empty d s.states
    then (P, cell_after s.p 1) ∷ (A, s.a - 1) ∷ (State d, state_number Full) ∷ (Register d, slice_index s.cells s.p) ∷ []
    else [])

-- One step of the block transfer whose instruction word is the phase, by the code in its upper six bits and the d in its
-- lower six. No other code begins a transfer, so the last case, a wait, never applies. [P16, P18]
abbrev pub block_writes : PpView → Writes PpPlace
block_writes s =
    let code = s.phase / 0o100 in
    let d = s.phase % 0o100 in
    if code == 0o61 then central_input s else
    (if code == 0o63 then central_output s else
    (if code == 0o71 then channel_input d s else
    (if code == 0o73 then channel_output d s else [])))
