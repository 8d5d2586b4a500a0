use Rattle.pp_search.proofs.Listed.{tests_more}
use Rattle.pp_search.proofs.plan.Looked.add_tests.Goals as goal

pub loop-test-preserved : goal.loop-test-preserved
loop-test-preserved c =
    let grows = c.add_test.ensures.grows in
    record {
      added = tests_more c.loop-test.self c.add_test.new.self grows c.args.tests.now c.loop-test.test-index _
          c.loop-test-test.true c.loop-test.invariant.added c.add_test.ensures.added;
      grows = (λ p is. grows.0 p (c.loop-test.invariant.grows.0 p is), λ is. grows.1 (c.loop-test.invariant.grows.1 is));
    }
