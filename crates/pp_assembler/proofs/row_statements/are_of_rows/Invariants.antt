use Rattle.std.proofs.Common.{drop}
use Rattle.pp_assembler.specs.RowStatements.{AreOfRows}
use Rattle.pp_assembler.proofs.row_statements.are_of_rows.Given as goal

abbrev pub invariant-loop-unit : goal.invariant-loop-unit
invariant-loop-unit l = AreOfRows l.lines l.words (drop l.unit-index l.units) l.rest → AreOfRows l.lines l.words l.units l.rows
