use Rattle.std.proofs.Common.{subst}
use Rattle.pp_search.proofs.Listed.{AreListed, all_more}
use Rattle.pp_search.proofs.plan.Looked.add_all.Goals as goal

pub loop-alternative-preserved : goal.loop-alternative-preserved
loop-alternative-preserved c =
    let new = c.add_tests.new.self in
    let here : AreListed new c.alternative-item.result = rw c.as_slice.ensures.value at c.add_tests.ensures.added in
    all_more c.loop-alternative.self new c.add_tests.ensures.grows c.args.alternatives.now c.loop-alternative.alternative-index
    c.alternative-item.result
    c.loop-alternative-test.true c.loop-alternative.invariant (subst (AreListed new) c.alternative-item.is here)
