use Rattle.std.proofs.Common.{◌<◌, ◌≤◌, ◌-◌, length, take}
use Rattle.pp_notation.specs.Rows.{IsRow, first_address}
use Rattle.pp_disassembly.proofs.disassembly.data_len.Given as goal

abbrev pub invariant-loop-size : goal.invariant-loop-size
invariant-loop-size l = record {
  some : 0 < l.size;
  few : l.size ≤ 4;
  within : l.size ≤ length l.row;
  row : IsRow (first_address l.row) (take l.size l.row);
}

abbrev pub decreases-loop-size : goal.decreases-loop-size
decreases-loop-size l = 4 - l.size
