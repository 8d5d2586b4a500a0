use Rattle.std.proofs.Common.{◌≡◌, ◌≤◌, length, take}
use Rattle.arrayvec.specs.ArrayVec.{array_vec_len}
use Rattle.pp_notation.specs.Rows.{words_in}
use Rattle.pp_disassembly.proofs.disassembly.data.Given as goal

abbrev pub invariant-loop-cell : goal.invariant-loop-cell
invariant-loop-cell l = record {
  few : length l.row ≤ 4;
  items : l.words.items ≡ words_in (take l.cell-index l.row);
  len : array_vec_len l.words ≡ l.cell-index;
}
