use Rattle.std.proofs.Common.{drop}
use Rattle.std.specs.List.{AllByRecursion}
use Rattle.pp_meaning.specs.Lines.{IsWritten}
use Rattle.pp_encoder.proofs.written.is_unit_written.Given as goal

abbrev pub invariant-loop-statement : goal.invariant-loop-statement
invariant-loop-statement l = AllByRecursion (IsWritten l.symbols) (drop l.statement-index l.statements) → AllByRecursion
    (IsWritten l.symbols) l.statements
