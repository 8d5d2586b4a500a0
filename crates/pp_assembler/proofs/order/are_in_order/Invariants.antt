use Rattle.std.proofs.Common.{◌≡◌, drop, true}
use Rattle.pp_assembler.specs.Order.{begins_in_order, in_order}
use Rattle.pp_assembler.proofs.order.are_in_order.Given as goal

abbrev pub invariant-loop-row : goal.invariant-loop-row
invariant-loop-row l = in_order l.lines l.words l.next l.lines.source.end (drop l.row-index l.rows) ≡ true →
    begins_in_order l.lines l.words l.rows ≡ true
