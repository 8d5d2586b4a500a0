use Rattle.std.proofs.Common.{◌≡◌, ◌+◌, ◌*◌, ◌++◌, []}
use Rattle.arrayvec.specs.ArrayVec.{array_vec_len}
use Rattle.pp_console.specs.{Dumps.each, Dumps.cell_text, Text.field}
use Rattle.pp_console.proofs.dumps.row_line.Given as goal

abbrev pub invariant-loop-i : goal.invariant-loop-i
invariant-loop-i l = record {
  items : l.line.items ≡ field [] 4 l.from ++ each (cell_text l.machine l.pp) l.from l.i;
  len : array_vec_len l.line ≡ 4 + 5 * l.i;
}
