use Rattle.std.proofs.Common.{drop}
use Rattle.pp_assembler.specs.RowStatements.{AreOfSystemRows}
use Rattle.pp_assembler.proofs.row_statements.are_of_system_rows.Given as goal

abbrev pub invariant-loop-text : goal.invariant-loop-text
invariant-loop-text l = AreOfSystemRows l.lines l.words (drop l.text-index l.systems) l.rest →
    AreOfSystemRows l.lines l.words l.systems l.rows
