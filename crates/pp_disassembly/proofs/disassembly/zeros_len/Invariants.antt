use Rattle.std.proofs.Common.{◌≡◌, ◌≤◌, ◌-◌, true, length, take}
use Rattle.pp_notation.specs.Rows.{IsRow, are_zeros, first_address}
use Rattle.pp_disassembly.proofs.disassembly.zeros_len.Given as goal

abbrev pub invariant-loop-count : goal.invariant-loop-count
invariant-loop-count l = record {
  within : l.count ≤ length l.row;
  row : IsRow (first_address l.row) (take l.count l.row);
  zeros : are_zeros (take l.count l.row) ≡ true;
}

abbrev pub decreases-loop-count : goal.decreases-loop-count
decreases-loop-count l = length l.row - l.count
