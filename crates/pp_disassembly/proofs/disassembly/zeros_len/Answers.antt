use Rattle.std.proofs.Common.{arith}
use Rattle.pp_notation.proofs.RowCells.{IsRow-more, zeros-more}
use Rattle.pp_disassembly.proofs.disassembly.zeros_len.Goals as goal

pub loop-count-preserved : goal.loop-count-preserved
loop-count-preserved c = record {
  within = omega arith;
  row = IsRow-more c.args.row.now c.loop-count.count c.requires c.loop-count.invariant.row (omega arith)
      (c.is_data.ensures c.if-is_data.true);
  zeros = zeros-more c.args.row.now c.loop-count.count _ c.loop-count.invariant.zeros (omega arith) c.if-row-count-eq0.true;
}
