use Rattle.std.proofs.Common.{length}
use Rattle.pp_statements.specs.Values.{factors_at, more_factors, view}
use Rattle.pp_statements.proofs.Repeating.{goes_on, is_done}
use Rattle.pp_statements.proofs.values.Expression.factors.Goals as goal

pub loop-turn-preserved : goal.loop-turn-preserved
loop-turn-preserved c = goes_on (length c.args.text.now) c.loop-turn._turn (more_factors (view c.args.self)) _ _ _
    c.loop-turn-test.true c.in_ok-product.ensures c.loop-turn.invariant

pub returns : goal.returns
unfolding factors_at
returns c = is_done (length c.args.text.now) c.loop-turn._turn (more_factors (view c.args.self)) _ _
    c.loop-turn-test.false c.loop-turn.invariant
