use Rattle.std.proofs.Common.{◌≡◌, drop}
use Rattle.pp_meaning.specs.Numbers.{value_from}
use Rattle.pp_meaning.proofs.numbers.digits_value.Given as goal

abbrev pub invariant-loop-digit : goal.invariant-loop-digit
invariant-loop-digit l = value_from l.radix l.value (drop l.digit-index l.digits) ≡ value_from l.radix 0 l.digits
