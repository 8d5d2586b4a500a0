-- Rows of the devices: one step leads from some numbers to others.
use Rattle.std.specs.Prelude.{ℕ, List, [], ◌∷◌, ◌≡◌, ◌++◌, ◌-◌, length, replicate}
use Rattle.pp_machine.specs.Inner.Device.{DeviceModel, DevicePlace, DeviceView, device_old_values, over_device}
use Rattle.pp_machine.specs.Inner.Printer.{PrinterPlace, PrinterView, printer_model}
use Rattle.pp_machine.specs.Inner.Reader.{ReaderPlace, ReaderView, reader_model}
use Rattle.pp_machine.specs.Writes.{Writes}

-- One step of a device leads from the first numbers, with those of `blank` at all other places, to the second.
abbrev Leads : {Numbers Own Record : Type 0} → DeviceModel Numbers Own Record →
    DeviceView Numbers → Writes (DevicePlace Own) → Writes (DevicePlace Own) → Type 0
Leads d blank before later =
    let s = over_device d blank before in
    device_old_values d (over_device d s (d.writes s)) later ≡ later

-- a card of 80 (decimal) columns that begins with these numbers
abbrev pub card : List ℕ → List ℕ
card columns = columns ++ replicate (80 - length columns) 0

-- a deck of one card, with 1, 2 and 3 in its first columns
abbrev pub one_card : List (List ℕ)
one_card = card (1 ∷ 2 ∷ 3 ∷ []) ∷ []

-- an idle reader before the first card of the deck, on an inactive channel
abbrev pub blank_reader : List (List ℕ) → ReaderView
blank_reader deck = record { device = record { deck = deck; card = 0; column = 0; mode = 0 }; state = 0; word = 0 }

abbrev pub ReaderLeads : List (List ℕ) → Writes ReaderPlace → Writes ReaderPlace → Type 0
ReaderLeads deck = Leads reader_model (blank_reader deck)

-- an idle printer on an inactive channel; the rows look only at its first eight symbols
abbrev pub blank_printer : PrinterView
blank_printer = record { device = record { symbols = replicate 8 0; length = 0; column = 0; mode = 0 }; state = 0; word = 0 }

abbrev pub PrinterLeads : Writes PrinterPlace → Writes PrinterPlace → Type 0
PrinterLeads = Leads printer_model blank_printer
