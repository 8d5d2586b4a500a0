use Rattle.pp_turn_origins.proofs.DeviceOrigins.{printer_enough, printer_others, reader_enough, reader_others}
use Rattle.pp_turn_origins.proofs.laws.device_reads_are_enough.Goals as goal

pub returns-clause-reader : goal.returns-clause-reader
returns-clause-reader c = λ s t p origin setup deck same found. reader_enough s t p origin setup deck same found

pub returns-clause-printer : goal.returns-clause-printer
returns-clause-printer c = λ s t p origin setup deck same found. printer_enough s t p origin setup deck same found

pub returns-clause-reader_others : goal.returns-clause-reader_others
returns-clause-reader_others c = λ s t p setup deck same found. reader_others s t p setup deck same found

pub returns-clause-printer_others : goal.returns-clause-printer_others
returns-clause-printer_others c = λ s t p setup same found. printer_others s t p setup same found
