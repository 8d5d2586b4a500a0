use Rattle.std.proofs.lemmas.List.Elements.{All-more}
use Rattle.pp_search.proofs.Chosen.{take_whole}
use Rattle.pp_search.specs.Plan.{IsOwn}
use Rattle.pp_search.proofs.plan.are_own.Goals as goal

pub loop-test-preserved : goal.loop-test-preserved
loop-test-preserved c =
    All-more (IsOwn c.args.pp) c.args.tests.now c.loop-test.test-index _ c.loop-test-test.true c.loop-test.invariant
    (c.is_own.ensures c.if-not-is_own.false)

pub returns : goal.returns
returns c = λ is. rw (take_whole c.args.tests.now c.loop-test.test-index c.loop-test-test.false) at c.loop-test.invariant
