-- The origins of what the parts of a turn after the processor's write: the card reader, the printer, the clock and the slot. Each
-- part reads the machine that the parts before it left.
use Rattle.std.specs.Prelude.{ℕ, List, [], ◌∷◌, ◌+◌, ◌==◌, ◌&&◌, nat_le, nat_lt, if◌then◌else◌, map}
use Rattle.pp_machine.specs.{Machine.Machine, Machine.has_function, Machine.is_in_state, ChannelNumbers.state_number}
use Rattle.pp_machine.specs.{declared.place.Place.Place, Reader.mode_at, Reader.reader_status, ReaderNumbers.reader_mode_number}
use Rattle.pp_machine.specs.{Printer.fit, Printer.printer_status, PrinterNumbers.printer_mode_number}
use Rattle.pp_machine.specs.declared.channel.ChannelState.TheVariants.{Inactive, Empty, Full}
use Rattle.pp_machine.specs.declared.place.Place.TheVariants.{ChannelMode, ChannelWord, Card, CardColumn, ReaderMode, Clock, Slot}
use Rattle.pp_machine.specs.declared.place.Place.TheVariants.{PaperLength, PaperColumn, PrinterMode, PaperSymbol}
use Rattle.pp_machine.specs.declared.printer.PrinterMode.TheVariants as printing
use Rattle.pp_machine.specs.declared.reader.ReaderMode.TheVariants as reading
use Rattle.pp_origins.specs.Origin.{Origin, Origins, constant}
use Rattle.pp_origins.specs.Rows.{whole}
use Rattle.pp_origins.specs.declared.origin.{Field.Field, Operation.Operation}
use Rattle.pp_origins.specs.declared.origin.Field.TheVariants.{UpperSix, LowerSix}
use Rattle.pp_origins.specs.declared.origin.Operation.TheVariants as by

abbrev pub set_to : ℕ → Origin
set_to n = record { operation = constant n; reads = [] }

abbrev pub from : Operation → List Place → Origin
from operation places = record { operation = operation; reads = map whole places }

-- Six bits of a word that is printed.
abbrev pub half : Field → ℕ → Origin
half field c = record { operation = by.Moved; reads = record { place = ChannelWord c; field = field } ∷ [] }

-- The card reader, case by case as in its step.
abbrev pub reader_origins : Machine → Origins
reader_origins s =
    let c = s.setup.reader_channel in
    let r = s.reader in
    let is_reading = is_in_state s c Empty && r.mode == reader_mode_number reading.Reading in
    let inactive = set_to (state_number Inactive) in
    let full = set_to (state_number Full) in
    if has_function s c 0o0001 && nat_lt 0 r.column then
    (ChannelMode c, inactive) ∷ (Card, from by.CountUp (Card ∷ [])) ∷ (CardColumn, set_to 0)
    ∷ (ReaderMode, set_to (mode_at r (r.card + 1))) ∷ []
    else (if has_function s c 0o0001 then
    (ChannelMode c, inactive) ∷ (CardColumn, set_to 0) ∷ (ReaderMode, set_to (mode_at r r.card)) ∷ []
    else (if has_function s c 0o0002 then
    (ChannelMode c, inactive) ∷ (ReaderMode, set_to (reader_mode_number reading.Status)) ∷ []
    else (if is_reading && nat_lt r.column 80 then
    (ChannelWord c, from by.Punched (Card ∷ CardColumn ∷ [])) ∷ (ChannelMode c, full)
    ∷ (CardColumn, from by.CountUp (CardColumn ∷ [])) ∷ []
    else (if is_reading then
    (ChannelMode c, inactive) ∷ (Card, from by.CountUp (Card ∷ [])) ∷ (CardColumn, set_to 0)
    ∷ (ReaderMode, set_to (reader_mode_number reading.Idle)) ∷ []
    else (if is_in_state s c Empty && r.mode == reader_mode_number reading.Status then
    (ChannelWord c, set_to (reader_status r)) ∷ (ChannelMode c, full) ∷ (ReaderMode, set_to (reader_mode_number reading.Sent)) ∷ []
    else (if is_in_state s c Empty && r.mode == reader_mode_number reading.Sent then
    (ChannelMode c, inactive) ∷ (ReaderMode, set_to (reader_mode_number reading.Idle)) ∷ []
    else []))))))

-- A word that is printed, by the channel, the column and the length of the paper.
abbrev pub word_origins : ℕ → ℕ → ℕ → Origins
word_origins c column at =
    let empty = set_to (state_number Empty) in
    if nat_le (column + 2) 136 then
    (ChannelMode c, empty) ∷ (PaperSymbol (at + 1), half LowerSix c) ∷ (PaperSymbol at, half UpperSix c)
    ∷ (PaperLength, from by.CountUp2 (PaperLength ∷ [])) ∷ (PaperColumn, from by.CountUp2 (PaperColumn ∷ [])) ∷ []
    else (if nat_le (column + 1) 136 then
    (ChannelMode c, empty) ∷ (PaperSymbol at, half UpperSix c)
    ∷ (PaperLength, from by.CountUp (PaperLength ∷ [])) ∷ (PaperColumn, from by.CountUp (PaperColumn ∷ [])) ∷ []
    else
    (ChannelMode c, empty) ∷ (PaperLength, from by.Moved (PaperLength ∷ [])) ∷ (PaperColumn, from by.Moved (PaperColumn ∷ [])) ∷ [])

-- The printer, case by case as in its step.
abbrev pub printer_origins : Machine → Origins
printer_origins s =
    let c = s.setup.printer_channel in
    let p = s.printer in
    let inactive = set_to (state_number Inactive) in
    if has_function s c 0o0001 then (ChannelMode c, inactive) ∷ (PrinterMode, set_to (printer_mode_number printing.Printing)) ∷ []
    else (if has_function s c 0o0002 then
    (ChannelMode c, inactive) ∷ (PrinterMode, set_to (printer_mode_number printing.Status)) ∷ []
    else (if has_function s c 0o0003 && fit p 1 then
    (ChannelMode c, inactive) ∷ (PaperSymbol p.length, set_to 0o100) ∷ (PaperLength, from by.CountUp (PaperLength ∷ []))
    ∷ (PaperColumn, set_to 0) ∷ []
    else (if is_in_state s c Full && (p.mode == printer_mode_number printing.Printing && fit p 2) then
    word_origins c p.column p.length
    else (if is_in_state s c Empty && p.mode == printer_mode_number printing.Status then
    (ChannelWord c, set_to (printer_status p)) ∷ (ChannelMode c, set_to (state_number Full))
    ∷ (PrinterMode, set_to (printer_mode_number printing.Sent)) ∷ []
    else (if is_in_state s c Empty && p.mode == printer_mode_number printing.Sent then
    (ChannelMode c, inactive) ∷ (PrinterMode, set_to (printer_mode_number printing.Idle)) ∷ []
    else [])))))

-- The clock, in the turn of slot 11 alone, and the slot.
abbrev pub clock_origins : Machine → Origins
clock_origins s = if s.slot == 0o11 then (Clock, from by.After1 (Clock ∷ [])) ∷ [] else []

abbrev pub slot_origins : Machine → Origins
slot_origins s = (Slot, from by.NextSlot (Slot ∷ [])) ∷ []

-- The control places of the reader and of the printer: with the deck, their numbers decide what the device reads and writes.
abbrev pub reader_control : Machine → List Place
reader_control s = let c = s.setup.reader_channel in ChannelMode c ∷ ChannelWord c ∷ ReaderMode ∷ CardColumn ∷ Card ∷ []

abbrev pub printer_control : Machine → List Place
printer_control s = let c = s.setup.printer_channel in ChannelMode c ∷ ChannelWord c ∷ PrinterMode ∷ PaperColumn ∷ PaperLength ∷ []
