-- The printer on its own numbers and its channel: one step as a write list, and the places and old values in its record.
use Rattle.std.specs.Prelude.{ℕ, ◌+◌, ◌/◌, ◌%◌, ◌<◌, ◌≤◌, ◌≡◌, [], ◌∷◌, slice_index, set, if◌then◌else◌, ◌==◌, ◌&&◌, nat_le}
use Rattle.pp_machine.specs.Prelude.{state_number, Writes, Place}
use Rattle.pp_machine.specs.Inner.Device.{DeviceModel, DevicePlace, DeviceView, AtOwn, AtState, AtWord, device_place}
use Rattle.pp_machine.specs.declared.printer.PrinterRecord.TheVariants.{Nothing, Called, LineEnded, WordDropped, UpperPrinted}
use Rattle.pp_machine.specs.declared.printer.PrinterRecord.TheVariants.{WordPrinted, StatusSent, StatusEnded}
use Rattle.pp_machine.specs.declared.printer.PrinterMode.TheVariants.{Idle, Printing, Status, Sent}
use Rattle.pp_machine.specs.PrinterNumbers.{PrinterNumbers, printer_mode_number as number_of}
use Rattle.pp_machine.specs.declared.channel.ChannelState.TheVariants.{Inactive, Empty, Full, Function}
use Rattle.pp_machine.specs.{declared.printer.PrinterRecord.PrinterRecord, Printer.fit, Printer.printer_status}
use Rattle.pp_machine.specs.declared.place.Place.TheVariants as place

-- the printer, and the state and register of its channel
abbrev pub PrinterView : Type 0
PrinterView = DeviceView PrinterNumbers

-- ---- places

pub data PrinterOwn : Type 0 where
  Length : PrinterOwn
  Column : PrinterOwn
  Mode : PrinterOwn
  Symbol : ℕ → PrinterOwn

abbrev pub number_own : PrinterNumbers → PrinterOwn → ℕ
number_own p Length = p.length
number_own p Column = p.column
number_own p Mode = p.mode
number_own p (Symbol k) = slice_index p.symbols k

abbrev pub put_own : PrinterNumbers → PrinterOwn → ℕ → PrinterNumbers
put_own p Length v = record p { length = v }
put_own p Column v = record p { column = v }
put_own p Mode v = record p { mode = v }
put_own p (Symbol k) v = record p { symbols = set p.symbols k v }

-- the machine's names
abbrev pub name_own : PrinterOwn → Place
name_own Length = place.PaperLength
name_own Column = place.PaperColumn
name_own Mode = place.PrinterMode
name_own (Symbol k) = place.PaperSymbol k

abbrev pub PrinterPlace : Type 0
PrinterPlace = DevicePlace PrinterOwn

-- ---- the step

-- function 0003: a line end, if one more symbol fits
abbrev pub line_end_writes : PrinterView → Writes PrinterPlace
line_end_writes s =
    if fit s.device 1
    then (AtState, state_number Inactive) ∷ (AtOwn (Symbol s.device.length), 0o100) ∷
    (AtOwn Length, s.device.length + 1) ∷ (AtOwn Column, 0) ∷ []
    else []

-- a function code in the channel: 0001, 0002 or 0003; any other code has no effect
abbrev pub function_writes : PrinterView → Writes PrinterPlace
function_writes s =
    if s.word == 0o0001 then (AtState, state_number Inactive) ∷ (AtOwn Mode, number_of Printing) ∷ []
    else (if s.word == 0o0002 then (AtState, state_number Inactive) ∷ (AtOwn Mode, number_of Status) ∷ []
    else (if s.word == 0o0003 then line_end_writes s
    else []))

-- a word of two symbols, the upper six bits first; symbols past column 136 (decimal) are dropped
abbrev pub word_writes : PrinterView → Writes PrinterPlace
word_writes s =
    if nat_le (s.device.column + 2) 136
    then (AtState, state_number Empty) ∷ (AtOwn (Symbol (s.device.length + 1)), s.word % 0o100) ∷ (
      AtOwn (Symbol s.device.length),
      s.word / 0o100,
    ) ∷ (AtOwn Length, s.device.length + 2) ∷ (AtOwn Column, s.device.column + 2) ∷ []
    else (if nat_le (s.device.column + 1) 136
    then (AtState, state_number Empty) ∷ (AtOwn (Symbol s.device.length), s.word / 0o100) ∷
    (AtOwn Length, s.device.length + 1) ∷ (AtOwn Column, s.device.column + 1) ∷ []
    else (AtState, state_number Empty) ∷ (AtOwn Length, s.device.length) ∷ (AtOwn Column, s.device.column) ∷ [])

-- a full channel: its word is taken in mode Printing, if two symbols fit
abbrev pub output_writes : PrinterView → Writes PrinterPlace
output_writes s =
    if s.device.mode == number_of Printing && fit s.device 2 then word_writes s
    else []

-- an empty channel, by the printer's mode
abbrev pub input_writes : PrinterView → Writes PrinterPlace
input_writes s =
    if s.device.mode == number_of Status
    then (AtWord, printer_status s.device) ∷ (AtState, state_number Full) ∷ (AtOwn Mode, number_of Sent) ∷ []
    else (if s.device.mode == number_of Sent then (AtState, state_number Inactive) ∷ (AtOwn Mode, number_of Idle) ∷ []
    else [])

-- one step of the printer, by the state of its channel
abbrev pub printer_writes : PrinterView → Writes PrinterPlace
printer_writes s =
    if s.state == state_number Function then function_writes s
    else (if s.state == state_number Full then output_writes s
    else (if s.state == state_number Empty then input_writes s
    else []))

-- ---- the record

-- the places of a record and their old values
abbrev pub printer_pairs : PrinterRecord → Writes PrinterPlace
printer_pairs Nothing = []
printer_pairs (Called mode) = (AtState, state_number Function) ∷ (AtOwn Mode, number_of mode) ∷ []
printer_pairs (LineEnded len column) =
    (AtState, state_number Function) ∷ (AtOwn (Symbol len), 0) ∷ (AtOwn Length, len) ∷ (AtOwn Column, column) ∷ []
printer_pairs (WordDropped len column) = (AtState, state_number Full) ∷ (AtOwn Length, len) ∷ (AtOwn Column, column) ∷ []
printer_pairs (UpperPrinted len column) =
    (AtState, state_number Full) ∷ (AtOwn (Symbol len), 0) ∷ (AtOwn Length, len) ∷ (AtOwn Column, column) ∷ []
printer_pairs (WordPrinted len column) = (AtState, state_number Full) ∷ (AtOwn (Symbol (len + 1)), 0) ∷
    (AtOwn (Symbol len), 0) ∷ (AtOwn Length, len) ∷ (AtOwn Column, column) ∷ []
printer_pairs (StatusSent word) = (AtWord, word) ∷ (AtState, state_number Empty) ∷ (AtOwn Mode, number_of Status) ∷ []
printer_pairs StatusEnded = (AtState, state_number Empty) ∷ (AtOwn Mode, number_of Sent) ∷ []

-- the record can be undone: the symbols that this removes are the last ones of the paper
abbrev pub FitsPrinter : PrinterRecord → PrinterView → Type 0
FitsPrinter (LineEnded len column) s = (s.device.length ≡ len + 1) × (len < 65536) × (column ≤ 136)
FitsPrinter (WordDropped len column) s = (s.device.length ≡ len) × (column ≤ 136)
FitsPrinter (UpperPrinted len column) s = (s.device.length ≡ len + 1) × (len < 65536) × (column ≤ 136)
FitsPrinter (WordPrinted len column) s = (s.device.length ≡ len + 2) × (len < 65535) × (column ≤ 136)
FitsPrinter (StatusSent word) s = word < 0o10000
FitsPrinter Nothing s = Unit {0}
FitsPrinter (Called mode) s = Unit {0}
FitsPrinter StatusEnded s = Unit {0}

-- ---- the device

abbrev pub printer_model : DeviceModel PrinterNumbers PrinterOwn PrinterRecord
printer_model = record {
  number = number_own;
  put = put_own;
  name = name_own;
  writes = printer_writes;
  pairs = printer_pairs;
  most = 5;
  Fits = FitsPrinter;
  get = λ m. m.printer;
  channel = λ s. s.printer_channel;
  attach = λ m c p. record m { printer = p; setup = record m.setup { printer_channel = c } };
}

abbrev pub printer_place : ℕ → PrinterPlace → Place
printer_place = device_place printer_model
