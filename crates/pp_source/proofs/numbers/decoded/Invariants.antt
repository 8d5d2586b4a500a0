use Rattle.std.proofs.Common.{◌≡◌, ◌<◌, ◌^◌, take}
use Rattle.pp_notation.specs.Digits.{number_in}
use Rattle.pp_source.proofs.numbers.decoded.Given as goal

abbrev pub invariant-loop-digit : goal.invariant-loop-digit
invariant-loop-digit l = record {
  read : l.value ≡ number_in l.base (take l.digit-index l.digits);
  within : l.value < 2 ^ 63;
}
