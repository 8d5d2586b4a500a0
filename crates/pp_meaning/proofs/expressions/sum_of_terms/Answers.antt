use Rattle.std.proofs.Common.{◌∙◌, SFits, rules, w64}
use Rattle.std.proofs.lemmas.Int.{to_z-of_z}
use Rattle.pp_meaning.specs.Expressions.{with_term}
use Rattle.pp_meaning.proofs.Folds.{fold_on}
use Rattle.pp_meaning.proofs.expressions.sum_of_terms.Goals as goal

pub loop-term-preserved : goal.loop-term-preserved
loop-term-preserved c =
    let fits : SFits w64 c.in_ok-total.total = search rules in
    let step = fold_on (with_term c.args.symbols.now c.args.place) _ _ c.args.terms.now
    c.loop-term.term-index c.term-item.result c.loop-term-test.true c.term-item.is c.in_ok-total.ensures ∙ c.loop-term.invariant in
    rw (to_z-of_z w64 c.in_ok-total.total fits) step
