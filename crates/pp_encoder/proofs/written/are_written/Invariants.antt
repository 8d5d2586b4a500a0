use Rattle.std.proofs.Common.{drop}
use Rattle.std.specs.List.{AllByRecursion}
use Rattle.pp_meaning.specs.Lines.{AreWritten}
use Rattle.pp_encoder.proofs.written.are_written.Given as goal

abbrev pub invariant-loop-unit : goal.invariant-loop-unit
invariant-loop-unit l = AllByRecursion (AreWritten l.symbols) (drop l.unit-index l.units) → AllByRecursion (AreWritten l.symbols)
    l.units
