use Rattle.std.proofs.Common.{◌≡◌, ◌≤◌, ◌-◌, max}
use Rattle.pp_arith.specs.Octal.{octal_length}
use Rattle.pp_arith.proofs.writing.width.Given as goal

abbrev pub invariant-loop-width : goal.invariant-loop-width
invariant-loop-width l = record {
  widest : max l.width (octal_length 22 l.value) ≡ max l.digits (octal_length 22 l.value);
  within : l.width ≤ 22;
}

abbrev pub decreases-loop-width : goal.decreases-loop-width
decreases-loop-width l = 22 - l.width
