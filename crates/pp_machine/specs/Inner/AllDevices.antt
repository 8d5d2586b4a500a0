-- The devices that every machine has, and a machine with them.
use Rattle.std.specs.Prelude.{ℕ, List, Option}
use Rattle.pp_machine.specs.Prelude.{ChannelNumbers, Machine, ProcessorNumbers}
use Rattle.pp_machine.specs.Inner.Devices.{DevicesModel, OnNumbers, no_devices, on}
use Rattle.pp_machine.specs.PrinterNumbers.{PrinterNumbers, IsPrinter}
use Rattle.pp_machine.specs.{Inner.Printer.printer_model, Inner.Reader.reader_model, ReaderNumbers.ReaderNumbers}
use Rattle.pp_machine.specs.{ReaderNumbers.IsReader, declared.devices.NoDevices.NoDevices, declared.devices.OnRecords.OnRecords}
use Rattle.pp_machine.specs.{declared.printer.PrinterRecord.PrinterRecord, declared.reader.ReaderRecord.ReaderRecord}

abbrev pub AllNumbers : Type 0
AllNumbers = OnNumbers ReaderNumbers (OnNumbers PrinterNumbers NoDevices)

abbrev pub AllRecords : Type 0
AllRecords = OnRecords ReaderRecord (OnRecords PrinterRecord NoDevices)

abbrev pub all_model : DevicesModel AllNumbers AllRecords
all_model = on reader_model (on printer_model no_devices)

-- the devices of a machine, each with its channel
abbrev pub devices_of : Machine → AllNumbers
devices_of s = record {
  channel = s.setup.reader_channel;
  device = s.reader;
  others = record { channel = s.setup.printer_channel; device = s.printer; others = record {} };
}

-- the machine with these parts
abbrev pub machine_with : AllNumbers → List ProcessorNumbers → ChannelNumbers →
    List ℕ → List ℕ → ℕ → List ℕ → ℕ → Option (List ℕ) → Machine
machine_with devices processors channels central frame slot watches words panel = record {
  processors = processors;
  channels = channels;
  central = central;
  frame = frame;
  reader = devices.device;
  printer = devices.others.device;
  slot = slot;
  watches = watches;
  setup =
      record { central_words = words; panel = panel; reader_channel = devices.channel; printer_channel = devices.others.channel };
}

-- The numbers of each device are in their ranges. [P24, P25]
abbrev pub AreInRange : Machine → Type 0
AreInRange s = IsReader s.reader × IsPrinter s.printer
