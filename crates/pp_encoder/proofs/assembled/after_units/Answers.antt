use Rattle.std.proofs.Common.{◌∙◌, Some}
use Rattle.pp_meaning.specs.Units.{known, with_unit}
use Rattle.pp_meaning.proofs.Folds.{fold_on}
use Rattle.pp_encoder.proofs.assembled.after_units.Goals as goal

pub loop-unit-preserved : goal.loop-unit-preserved
loop-unit-preserved c =
    fold_on (with_unit c.args.symbols.now) (Some (known c.loop-unit.left)) _ c.args.units.now c.loop-unit.unit-index
    c.unit-item.result c.loop-unit-test.true c.unit-item.is c.in_ok-left.ensures ∙ c.loop-unit.invariant
