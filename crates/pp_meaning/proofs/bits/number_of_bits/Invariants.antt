use Rattle.std.proofs.Common.{◌≡◌, drop}
use Rattle.pp_meaning.specs.Bits.{number_from_bits}
use Rattle.pp_meaning.proofs.bits.number_of_bits.Given as goal

abbrev pub invariant-loop-bit : goal.invariant-loop-bit
invariant-loop-bit l = number_from_bits l.number (drop l.bit-index l.bits) ≡ number_from_bits 0 l.bits
