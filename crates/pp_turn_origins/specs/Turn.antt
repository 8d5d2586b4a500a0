-- The origins of a turn: those of its parts, one after another.
use Rattle.std.specs.Prelude.{ℕ, Bool, true, false, List, [], ◌∷◌, ◌++◌, ◌+◌, ◌/◌, ◌%◌, ◌==◌, ◌||◌, if◌then◌else◌, slice_index}
use Rattle.pp_machine.specs.{Machine.Machine, Machine.over, Machine.processor, declared.place.Place.Place}
use Rattle.pp_machine.specs.declared.place.Place.TheVariants.{Slot, ChannelMode, ChannelWord, Clock, Card, CardColumn, ReaderMode}
use Rattle.pp_machine.specs.declared.place.Place.TheVariants.{PaperLength, PaperColumn, PrinterMode, PaperSymbol}
use Rattle.pp_machine.specs.Parts.{Part}
use Rattle.pp_origins.specs.Origin.{Origins}
use Rattle.pp_origins.specs.Step.{control_places, step_origins}
use Rattle.pp_rig.specs.Turn.{turn_parts}
use Rattle.pp_turn_origins.specs.Devices.{clock_origins, printer_origins, reader_origins, slot_origins}
use Rattle.pp_turn_origins.specs.declared.kind.TurnKind.{TurnKind}
use Rattle.pp_turn_origins.specs.declared.kind.TurnKind.TheVariants.{Acted, Waited, Passed, InBlock}

-- The origins of what the processor in the slot writes.
abbrev pub processor_origins : Machine → Origins
processor_origins s = step_origins s.slot s

abbrev pub origin_parts : List (Machine → Origins)
origin_parts = processor_origins ∷ reader_origins ∷ printer_origins ∷ clock_origins ∷ slot_origins ∷ []

-- The origins of parts that are performed one after another: each reads the machine that the parts before it left.
abbrev pub parts_origins : List Part → List (Machine → Origins) → Machine → Origins
parts_origins (part ∷ parts) (origins ∷ others) s = origins s ++ parts_origins parts others (over s (part s))
parts_origins _ _ s = []

-- For each place that a turn writes, where its new number comes from. If a place is there twice, the last one counts.
unfoldable pub turn_origins : Machine → Origins
turn_origins = parts_origins turn_parts origin_parts

-- The control places of a turn: the slot, and those of its processor's step.
unfoldable pub turn_control : Machine → List Place
turn_control s = Slot ∷ control_places s.slot s

-- A place that no device writes, nor the end of a turn.
abbrev pub is_of_processors : Place → Bool
is_of_processors (ChannelMode c) = false
is_of_processors (ChannelWord c) = false
is_of_processors Clock = false
is_of_processors Card = false
is_of_processors CardColumn = false
is_of_processors ReaderMode = false
is_of_processors PaperLength = false
is_of_processors PaperColumn = false
is_of_processors PrinterMode = false
is_of_processors (PaperSymbol k) = false
is_of_processors Slot = false
is_of_processors _ = true

-- ---- what a turn is

-- The instruction's word: the one at P, or in a block transfer the phase.
abbrev pub word_of : Machine → ℕ
word_of s = let x = processor s s.slot in if x.phase == 0 then slice_index x.cells x.p else x.phase

-- Its address: P, or in a block transfer the address before the one in cell 0000.
abbrev pub address_of : Machine → ℕ
address_of s = let x = processor s s.slot in if x.phase == 0 then x.p else (slice_index x.cells 0 + 0o7777) % 0o10000

-- A turn that writes nothing but the clock and the slot waits, and 00, 24 and 25 pass.
abbrev pub writes_nothing : Origins → Bool
writes_nothing [] = true
writes_nothing _ = false

abbrev pub kind_of : Bool → ℕ → ℕ → TurnKind
kind_of is_wait phase word =
    if is_wait then Waited else
    (if phase == 0 then
    (let code = word / 0o100 in if code == 0 || (code == 0o24 || code == 0o25) then Passed else Acted) else InBlock)
