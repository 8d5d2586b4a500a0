use Rattle.std.proofs.Common.{◌≡◌, ◌^◌}
use Rattle.pp_meaning.proofs.numbers.power_of_two.Given as goal

abbrev pub invariant-loop-bit : goal.invariant-loop-bit
invariant-loop-bit l = l.power ≡ 2 ^ l._bit
