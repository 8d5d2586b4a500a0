use Rattle.std.proofs.Common.{◌≡◌, ◌-◌, ◌^◌, min, take}
use Rattle.pp_notation.specs.Digits.{number_in}
use Rattle.pp_source.proofs.scan.count_of.Given as goal

abbrev pub invariant-loop-digit : goal.invariant-loop-digit
invariant-loop-digit l = l.value ≡ min (2 ^ 32 - 1) (number_in 10 (take l.digit-index l.digits))
