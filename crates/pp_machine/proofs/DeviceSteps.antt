-- The steps of the devices in the machine are those of their models.
use Rattle.std.proofs.Common.{arith, ◌≡◌, [], ◌∷◌}
use Rattle.std.proofs.lemmas.Bool.Decides.{nat_tests}
use Rattle.pp_machine.proofs.Prelude.{device_step_writes, Machine}
use Rattle.pp_machine.specs.{Inner.AllDevices.all_model, Inner.Printer.printer_model, Inner.Reader.reader_model, Reader.reader_step}
use Rattle.pp_machine.specs.Printer.{printer_step}

reader-step : (s : Machine) → device_step_writes reader_model s ≡ reader_step s
reader-step s = grind (arith, nat_tests)

printer-step : (s : Machine) → device_step_writes printer_model s ≡ printer_step s
printer-step s = grind (arith, nat_tests)

pub device-steps : all_model.parts ≡ reader_step ∷ printer_step ∷ []
device-steps = λ i. (λ s. reader-step s i) ∷ (λ s. printer-step s i) ∷ []
