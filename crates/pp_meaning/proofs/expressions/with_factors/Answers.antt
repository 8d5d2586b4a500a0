use Rattle.std.proofs.Common.{◌∙◌, SFits, rules, w64}
use Rattle.std.proofs.lemmas.Int.{to_z-of_z}
use Rattle.pp_meaning.specs.Expressions.{with_factor}
use Rattle.pp_meaning.proofs.Folds.{fold_on}
use Rattle.pp_meaning.proofs.expressions.with_factors.Goals as goal

pub loop-factor-preserved : goal.loop-factor-preserved
loop-factor-preserved c =
    let fits : SFits w64 c.in_ok-number.number = search rules in
    let step = fold_on (with_factor c.args.symbols.now c.args.place) _ _ c.args.factors.now
    c.loop-factor.factor-index c.factor-item.result c.loop-factor-test.true c.factor-item.is c.in_ok-number.ensures
    ∙ c.loop-factor.invariant in
    rw (to_z-of_z w64 c.in_ok-number.number fits) step
