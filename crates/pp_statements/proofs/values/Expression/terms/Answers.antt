use Rattle.std.proofs.Common.{length}
use Rattle.pp_statements.specs.Values.{terms_at, more_terms, view}
use Rattle.pp_statements.proofs.Repeating.{goes_on, is_done}
use Rattle.pp_statements.proofs.values.Expression.terms.Goals as goal

pub loop-turn-preserved : goal.loop-turn-preserved
loop-turn-preserved c = goes_on (length c.args.text.now) c.loop-turn._turn (more_terms (view c.args.self)) _ _ _
    c.loop-turn-test.true c.in_ok-sum.ensures c.loop-turn.invariant

pub returns : goal.returns
unfolding terms_at
returns c = is_done (length c.args.text.now) c.loop-turn._turn (more_terms (view c.args.self)) _ _
    c.loop-turn-test.false c.loop-turn.invariant
