use Rattle.std.proofs.Common.{◌≡◌, ◌≤◌, ◌+◌, ◌++◌}
use Rattle.arrayvec.specs.ArrayVec.{array_vec_len}
use Rattle.pp_arith.specs.Octal.{octal_digits}
use Rattle.pp_arith.proofs.writing.push_octal.Given as goal

abbrev pub invariant-loop-left : goal.invariant-loop-left
invariant-loop-left g l = record {
  at_most : l.left ≤ 22;
  room : array_vec_len l.line + l.left ≡ array_vec_len l.initial.line + l.digits;
  digits : l.line.items ++ octal_digits l.left l.value ≡ l.initial.line.items ++ octal_digits l.digits l.value;
}

abbrev pub decreases-loop-left : goal.decreases-loop-left
decreases-loop-left g l = l.left
