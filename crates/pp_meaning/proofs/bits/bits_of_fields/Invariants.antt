use Rattle.std.proofs.Common.{◌≡◌, drop, fold, Some}
use Rattle.pp_meaning.specs.Bits.{with_bits}
use Rattle.pp_meaning.proofs.bits.bits_of_fields.Given as goal

abbrev pub invariant-loop-operand : goal.invariant-loop-operand
invariant-loop-operand l = fold (with_bits l.symbols l.place) (Some l.bits.items) (drop l.operand-index l.operands) ≡ fold
    (with_bits l.symbols l.place) (Some l.before) l.operands
