use Rattle.std.proofs.Common.{◌≡◌, ◌≤◌, take}
use Rattle.pp_arith.specs.Octal.{octal_value}
use Rattle.pp_arith.proofs.reading.read_octal.Given as goal

abbrev pub invariant-loop-byte : goal.invariant-loop-byte
invariant-loop-byte l = record {
  read : l.value ≡ octal_value (take l.byte-index l.word);
  within : l.value ≤ l.max;
}
