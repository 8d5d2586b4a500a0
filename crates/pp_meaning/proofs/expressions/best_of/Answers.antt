use Rattle.std.proofs.Common.{◌∙◌, SFits, rules, w64}
use Rattle.std.proofs.lemmas.Int.{to_z-of_z}
use Rattle.pp_meaning.specs.Expressions.{with_choice}
use Rattle.pp_meaning.proofs.Folds.{fold_on}
use Rattle.pp_meaning.proofs.expressions.best_of.Goals as goal

pub loop-operand-preserved : goal.loop-operand-preserved
loop-operand-preserved c =
    let fits : SFits w64 c.in_ok-best.best = search rules in
    let step = fold_on (with_choice c.args.symbols.now c.args.place c.args.is_greatest) _ _ c.args.others.now
    c.loop-operand.operand-index c.operand-item.result c.loop-operand-test.true c.operand-item.is c.in_ok-best.ensures
    ∙ c.loop-operand.invariant in
    rw (to_z-of_z w64 c.in_ok-best.best fits) step
