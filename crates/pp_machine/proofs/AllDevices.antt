-- The devices that every machine has are at places of their own, and are their numbers.
use Rattle.std.proofs.Common.{refl, ◌≡◌, ℕ}
use Rattle.pp_machine.proofs.{DevicesLaws.no-laws, DevicesLaws.on-laws, PrinterLaws.printer-device, PrinterLaws.same-printer}
use Rattle.pp_machine.proofs.ReaderLaws.{reader-device, same-reader}
use Rattle.pp_machine.specs.Inner.{AllDevices.all_model, AllDevices.devices_of, Printer.printer_model, Reader.reader_model}
use Rattle.pp_machine.proofs.Prelude.{AreDevices, AreJoined, no_devices, on, Machine, number, Has, IsShaped, Place}

pub printer_joined : AreJoined printer_model no_devices
printer_joined = record { device = printer-device; others = no-laws; apart = λ m c n others. refl }

pub reader_joined : AreJoined reader_model (on printer_model no_devices)
reader_joined = record {
  device = reader-device;
  others = on-laws printer_model no_devices printer_joined;
  apart = λ m c n others. refl;
}

pub all-laws : AreDevices all_model
all-laws = on-laws reader_model (on printer_model no_devices) reader_joined

pub same-devices : (size : ℕ) (m m' : Machine) → IsShaped size m →
    IsShaped size m' → ((p : Place) → Has size p → number m p ≡ number m' p) →
    m.setup ≡ m'.setup → m.reader.deck ≡ m'.reader.deck → devices_of m ≡ devices_of m'
same-devices size m m' shaped shaped' each setup deck =
    rw (setup, same-reader size m m' each deck, same-printer size m m' shaped shaped' each) refl
