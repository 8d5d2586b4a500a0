use Rattle.std.proofs.Common.{◌∙◌, Some}
use Rattle.pp_meaning.specs.Units.{known, with_system}
use Rattle.pp_meaning.proofs.Folds.{fold_on}
use Rattle.pp_encoder.proofs.assembled.after_systems.Goals as goal

pub loop-text-preserved : goal.loop-text-preserved
loop-text-preserved c =
    fold_on (with_system c.args.symbols.now) (Some (known c.loop-text.left)) _ c.args.systems.now c.loop-text.text-index
    c.text-item.result c.loop-text-test.true c.text-item.is c.in_ok-left.ensures ∙ c.loop-text.invariant
