use Rattle.std.proofs.Common.{◌≡◌, ◌++◌, ◌-◌}
use Rattle.pp_meaning.specs.Bits.{bits_of}
use Rattle.pp_meaning.proofs.bits.bits_in.Given as goal

abbrev pub invariant-loop-index : goal.invariant-loop-index
invariant-loop-index l = l.bits.items ++ bits_of (l.size - l.index) l.number ≡ bits_of l.size l.number
