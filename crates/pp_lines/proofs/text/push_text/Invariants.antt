use Rattle.std.proofs.Common.{◌≡◌, ◌+◌, ◌++◌, take}
use Rattle.arrayvec.specs.ArrayVec.{array_vec_len}
use Rattle.pp_lines.proofs.text.push_text.Given as goal

abbrev pub invariant-loop-byte : goal.invariant-loop-byte
invariant-loop-byte g l = record {
  items : l.row.items ≡ l.initial.row.items ++ take l.byte-index l.text;
  len : array_vec_len l.row ≡ array_vec_len l.initial.row + l.byte-index;
}
