-- The card reader on its own numbers and its channel: one step as a write list, and the places and old values in its record.
use Rattle.std.specs.Prelude.{ℕ, ◌+◌, ◌<◌, [], ◌∷◌, slice_index, slice_index_or, if◌then◌else◌, ◌==◌, nat_lt}
use Rattle.pp_machine.specs.Prelude.{state_number, Writes, over_by, Place}
use Rattle.pp_machine.specs.Inner.Device.{DeviceModel, DevicePlace, DeviceView, AtOwn, AtState, AtWord, device_place, put_at}
use Rattle.pp_machine.specs.ReaderNumbers.{ReaderNumbers, IsReader, reader_mode_number as number_of}
use Rattle.pp_machine.specs.declared.reader.ReaderRecord.TheVariants.{Nothing, Started, Skipped, StatusCalled, ColumnSent}
use Rattle.pp_machine.specs.declared.reader.ReaderRecord.TheVariants.{CardEnded, StatusSent, StatusEnded}
use Rattle.pp_machine.specs.declared.reader.ReaderMode.TheVariants.{Idle, Reading, Status, Sent}
use Rattle.pp_machine.specs.declared.channel.ChannelState.TheVariants.{Inactive, Empty, Full, Function}
use Rattle.pp_machine.specs.{Reader.mode_at, Reader.reader_status, declared.reader.ReaderRecord.ReaderRecord}
use Rattle.pp_machine.specs.declared.place.Place.TheVariants as place

-- the reader, and the state and register of its channel
abbrev pub ReaderView : Type 0
ReaderView = DeviceView ReaderNumbers

-- ---- places

pub data ReaderOwn : Type 0 where
  Card : ReaderOwn
  Column : ReaderOwn
  Mode : ReaderOwn

abbrev pub number_own : ReaderNumbers → ReaderOwn → ℕ
number_own r Card = r.card
number_own r Column = r.column
number_own r Mode = r.mode

abbrev pub put_own : ReaderNumbers → ReaderOwn → ℕ → ReaderNumbers
put_own r Card v = record r { card = v }
put_own r Column v = record r { column = v }
put_own r Mode v = record r { mode = v }

-- the machine's names
abbrev pub name_own : ReaderOwn → Place
name_own Card = place.Card
name_own Column = place.CardColumn
name_own Mode = place.ReaderMode

abbrev pub ReaderPlace : Type 0
ReaderPlace = DevicePlace ReaderOwn

-- ---- the step

-- function 0001: starts at the first column of a card; if a card was begun, the rest of it is skipped
abbrev pub start_writes : ReaderView → Writes ReaderPlace
start_writes s =
    if nat_lt 0 s.device.column
    then (AtState, state_number Inactive) ∷ (AtOwn Card, s.device.card + 1) ∷
    (AtOwn Column, 0) ∷ (AtOwn Mode, mode_at s.device (s.device.card + 1)) ∷ []
    else (AtState, state_number Inactive) ∷ (AtOwn Column, 0) ∷ (AtOwn Mode, mode_at s.device s.device.card) ∷ []

-- a function code in the channel: 0001 or 0002; any other code has no effect
abbrev pub function_writes : ReaderView → Writes ReaderPlace
function_writes s =
    if s.word == 0o0001 then start_writes s
    else (if s.word == 0o0002 then (AtState, state_number Inactive) ∷ (AtOwn Mode, number_of Status) ∷ []
    else [])

-- Reading: the next column, or the end of the card after its 80 (decimal) columns
abbrev pub column_writes : ReaderView → Writes ReaderPlace
column_writes s =
    if nat_lt s.device.column 80
    then (AtWord, slice_index (slice_index_or s.device.deck s.device.card []) s.device.column) ∷
    (AtState, state_number Full) ∷ (AtOwn Column, s.device.column + 1) ∷ []
    else (AtState, state_number Inactive) ∷ (AtOwn Card, s.device.card + 1) ∷ (AtOwn Column, 0) ∷ (AtOwn Mode, number_of Idle) ∷ []

-- an empty channel, by the reader's mode
abbrev pub input_writes : ReaderView → Writes ReaderPlace
input_writes s =
    if s.device.mode == number_of Reading then column_writes s
    else (if s.device.mode == number_of Status
    then (AtWord, reader_status s.device) ∷ (AtState, state_number Full) ∷ (AtOwn Mode, number_of Sent) ∷ []
    else (if s.device.mode == number_of Sent then (AtState, state_number Inactive) ∷ (AtOwn Mode, number_of Idle) ∷ []
    else []))

-- one step of the reader, by the state of its channel
abbrev pub reader_writes : ReaderView → Writes ReaderPlace
reader_writes s =
    if s.state == state_number Function then function_writes s
    else (if s.state == state_number Empty then input_writes s
    else [])

-- ---- the record

-- the places of a record and their old values
abbrev pub reader_pairs : ReaderRecord → Writes ReaderPlace
reader_pairs Nothing = []
reader_pairs (Started mode) = (AtState, state_number Function) ∷ (AtOwn Column, 0) ∷ (AtOwn Mode, number_of mode) ∷ []
reader_pairs (Skipped card column mode) =
    (AtState, state_number Function) ∷ (AtOwn Card, card) ∷ (AtOwn Column, column) ∷ (AtOwn Mode, number_of mode) ∷ []
reader_pairs (StatusCalled mode) = (AtState, state_number Function) ∷ (AtOwn Mode, number_of mode) ∷ []
reader_pairs (ColumnSent word column) = (AtWord, word) ∷ (AtState, state_number Empty) ∷ (AtOwn Column, column) ∷ []
reader_pairs (CardEnded card) =
    (AtState, state_number Empty) ∷ (AtOwn Card, card) ∷ (AtOwn Column, 80) ∷ (AtOwn Mode, number_of Reading) ∷ []
reader_pairs (StatusSent word) = (AtWord, word) ∷ (AtState, state_number Empty) ∷ (AtOwn Mode, number_of Status) ∷ []
reader_pairs StatusEnded = (AtState, state_number Empty) ∷ (AtOwn Mode, number_of Sent) ∷ []

-- the record leads back to a well-formed reader and a 12-bit register
pub record FitsReader (r : ReaderRecord) (s : ReaderView) : Type 0 where
  pub reader : IsReader (over_by (put_at put_own) s (reader_pairs r)).device
  pub word : (over_by (put_at put_own) s (reader_pairs r)).word < 0o10000

-- ---- the device

abbrev pub reader_model : DeviceModel ReaderNumbers ReaderOwn ReaderRecord
reader_model = record {
  number = number_own;
  put = put_own;
  name = name_own;
  writes = reader_writes;
  pairs = reader_pairs;
  most = 4;
  Fits = FitsReader;
  get = λ m. m.reader;
  channel = λ s. s.reader_channel;
  attach = λ m c r. record m { reader = r; setup = record m.setup { reader_channel = c } };
}

abbrev pub reader_place : ℕ → ReaderPlace → Place
reader_place = device_place reader_model
