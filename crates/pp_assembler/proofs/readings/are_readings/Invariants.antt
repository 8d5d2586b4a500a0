use Rattle.std.proofs.Common.{drop}
use Rattle.std.specs.List.{AllByRecursion}
use Rattle.pp_assembler.specs.Decks.{IsReading}
use Rattle.pp_assembler.proofs.readings.are_readings.Given as goal

abbrev pub invariant-loop-reading : goal.invariant-loop-reading
invariant-loop-reading l = AllByRecursion (IsReading l.lines l.decks.all.items) (drop l.reading-index l.readings) → AllByRecursion
    (IsReading l.lines l.decks.all.items) l.readings
