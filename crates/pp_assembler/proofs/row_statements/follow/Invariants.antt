use Rattle.std.proofs.Common.{◌≡◌, drop, true}
use Rattle.pp_assembler.specs.RowStatements.{follow}
use Rattle.pp_assembler.proofs.row_statements.follow.Given as goal

abbrev pub invariant-loop-row : goal.invariant-loop-row
invariant-loop-row l = follow l.lines l.words l.statements l.next (drop l.row-index l.rows) ≡ true →
    follow l.lines l.words l.statements 0 l.rows ≡ true
