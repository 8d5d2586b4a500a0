use Rattle.std.proofs.Common.{◌≡◌, drop, fold, Some}
use Rattle.pp_meaning.specs.Units.{known, with_unit}
use Rattle.pp_encoder.proofs.assembled.after_units.Given as goal

abbrev pub invariant-loop-unit : goal.invariant-loop-unit
invariant-loop-unit l =
    fold (with_unit l.symbols) (Some (known l.left)) (drop l.unit-index l.units)
    ≡ fold (with_unit l.symbols) (Some (known l.fn.before)) l.units
