use Rattle.std.proofs.Common.{drop}
use Rattle.std.specs.List.{AllByRecursion}
use Rattle.pp_meaning.specs.Lines.{AreAllWritten}
use Rattle.pp_encoder.proofs.written.all_written.Given as goal

abbrev pub invariant-loop-text : goal.invariant-loop-text
invariant-loop-text l = AllByRecursion (AreAllWritten l.symbols) (drop l.text-index l.systems) → AllByRecursion (AreAllWritten l.symbols)
    l.systems
