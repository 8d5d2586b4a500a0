-- For the contracts of inner functions only: the origins of what a device wrote, by the places that it wrote.
use Rattle.std.specs.Prelude.{◌≡◌, ℕ, Bool, true, false, List, [], ◌∷◌, ◌++◌, ◌+◌, ◌==◌, if◌then◌else◌, length, take}
use Rattle.pp_actions.specs.declared.action.Action.{Action}
use Rattle.pp_actions.specs.declared.action.Action.TheVariants.{Turn}
use Rattle.pp_machine.specs.{Machine.processor, Olds.numbered, declared.olds.Old.Old}
use Rattle.pp_machine.specs.{Machine.Machine, Machine.over, Printer.printer_step, Reader.reader_step}
use Rattle.pp_machine.specs.declared.place.Place.TheVariants.{ChannelMode, ChannelWord, Clock, Card, CardColumn, ReaderMode}
use Rattle.pp_machine.specs.declared.place.Place.TheVariants.{PaperLength, PaperColumn, PrinterMode, PaperSymbol}
use Rattle.pp_origins.specs.Origin.{Origins}
use Rattle.pp_origins.specs.declared.origin.Operation.TheVariants as by
use Rattle.pp_origins.specs.Links.{links_of}
use Rattle.pp_origins.specs.declared.origin.Link.{Link}
use Rattle.pp_rig.specs.{Inner.ActionRecords.old_values_of, WellFormed.IsWellFormed}
use Rattle.pp_rig.specs.Turn.{clock_step, processor_step, slot_step}
use Rattle.pp_turn_origins.specs.Devices.{clock_origins, from, printer_origins, reader_origins, set_to, slot_origins, word_origins}
use Rattle.pp_turn_origins.specs.Recording.{made_of}
use Rattle.pp_turn_origins.specs.Turn.{address_of, kind_of, parts_origins, processor_origins, turn_origins, word_of, writes_nothing}
use Rattle.pp_turn_origins.specs.declared.{devices.Before.Before, reading.NextTurn.NextTurn}
use Rattle.pp_turn_origins.specs.declared.{recording.Begun.Begun, recording.Made.Made}

-- The reader on channel c wrote its mode, its column and its card or not; the new mode, and the new number of its channel's
-- register.
abbrev pub reader_by : (c : ℕ) (has_mode has_column has_card : Bool) (mode word : ℕ) → Origins
reader_by c has_mode has_column has_card mode word =
    if has_mode then
    (if has_column then
    (ChannelMode c, set_to 0) ∷ (if has_card
    then (Card, from by.CountUp (Card ∷ [])) ∷ (CardColumn, set_to 0) ∷ (ReaderMode, set_to mode) ∷ []
    else (CardColumn, set_to 0) ∷ (ReaderMode, set_to mode) ∷ [])
    else (if mode == 3
    then (ChannelWord c, set_to word) ∷ (ChannelMode c, set_to 2) ∷ (ReaderMode, set_to mode) ∷ []
    else (ChannelMode c, set_to 0) ∷ (ReaderMode, set_to mode) ∷ []))
    else (if has_column
    then (ChannelWord c, from by.Punched (Card ∷ CardColumn ∷ [])) ∷ (ChannelMode c, set_to 2)
    ∷ (CardColumn, from by.CountUp (CardColumn ∷ [])) ∷ []
    else [])

-- The printer on channel c wrote its mode and the paper or not; the paper's symbols and the column before; and the new mode,
-- column, and number of its channel's register.
abbrev pub printer_by : (c : ℕ) (has_mode has_paper : Bool) (at before mode column word : ℕ) → Origins
printer_by c has_mode has_paper at before mode column word =
    if has_mode then
    (if mode == 3
    then (ChannelWord c, set_to word) ∷ (ChannelMode c, set_to 2) ∷ (PrinterMode, set_to mode) ∷ []
    else (ChannelMode c, set_to 0) ∷ (PrinterMode, set_to mode) ∷ [])
    else (if has_paper then
    (if column == 0
    then (ChannelMode c, set_to 0) ∷ (PaperSymbol at, set_to 0o100) ∷ (PaperLength, from by.CountUp (PaperLength ∷ []))
    ∷ (PaperColumn, set_to 0) ∷ []
    else word_origins c before at)
    else [])

-- The clock in the turn of a slot.
abbrev pub clock_by : ℕ → Origins
clock_by slot = if slot == 0o11 then (Clock, from by.After1 (Clock ∷ [])) ∷ [] else []

-- The origins of the parts of a turn after the processor's.
unfoldable pub rest_origins : Machine → Origins
rest_origins s = parts_origins (reader_step ∷ printer_step ∷ clock_step ∷ slot_step ∷ [])
    (reader_origins ∷ printer_origins ∷ clock_origins ∷ slot_origins ∷ []) (over s (processor_step s))

abbrev pub is_turn : Action → Bool
is_turn Turn = true
is_turn action = false

-- What is known of the next turn of a machine: what its record will not tell, and what its processor will do, whose links are
-- behind others.
pub record IsBegun (s : Machine) (front links : List Link) (begun : Begun) : Type 0 where
  pub formed : IsWellFormed s
  pub slot : begun.before.slot ≡ s.slot
  pub symbols : begun.before.symbols ≡ s.printer.length
  pub column : begun.before.column ≡ s.printer.column
  pub of_processor : begun.next.processor ≡ s.slot
  pub address : begun.next.address ≡ address_of s
  pub word : begun.next.word ≡ word_of s
  pub kind : begun.next.kind ≡ kind_of (writes_nothing (processor_origins s)) (processor s s.slot).phase (word_of s)
  pub items : take begun.next.links links ≡ front ++ links_of (processor_origins s)

-- A turn on a machine, with all its links and what it overwrote, each behind others.
pub record IsEnded (s : Machine) (front links : List Link) (older olds : List Old) (made : Made) : Type 0 where
  pub turn : made ≡ made_of s
  pub items : take (length front + made.links) links ≡ front ++ links_of (turn_origins s)
  pub overwritten : take (length older + made.olds) olds ≡ older ++ numbered (old_values_of s Turn)
