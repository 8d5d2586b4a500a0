use Rattle.std.proofs.Common.{rules}
use Rattle.pp_assembler.proofs.RowParts.{next_part}
use Rattle.pp_assembler.proofs.row_statements.are_of_rows.Goals as goal

pub loop-unit-preserved : goal.loop-unit-preserved
loop-unit-preserved c = λ others.
    next_part c.args.lines.now c.args.words.now c.args.units.now c.args.rows.now c.loop-unit.rest.now c.head.result.now
    c.tail-rest.result.now c.loop-unit.unit-index c.end_of_unit-end.result c.unit-item.result _ (search rules) c.unit-item.is
    (search rules) (search rules) (search rules) c.loop-unit.invariant others
