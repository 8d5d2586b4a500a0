use Rattle.std.proofs.Common.{◌<◌, ◌≤◌, ◌-◌, length, take}
use Rattle.pp_notation.specs.Rows.{IsRow, first_address}
use Rattle.pp_loading.proofs.lines.row_len.Given as goal

abbrev pub invariant-loop-count : goal.invariant-loop-count
invariant-loop-count l = record {
  some : 0 < l.count;
  at_most : l.count ≤ 8;
  within : l.count ≤ length l.cells;
  row : IsRow (first_address l.cells) (take l.count l.cells);
}

abbrev pub decreases-loop-count : goal.decreases-loop-count
decreases-loop-count l = 8 - l.count
