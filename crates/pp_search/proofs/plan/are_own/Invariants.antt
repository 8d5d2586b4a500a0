use Rattle.std.proofs.Common.{All, take}
use Rattle.pp_search.specs.Plan.{IsOwn}
use Rattle.pp_search.proofs.plan.are_own.Given as goal

abbrev pub invariant-loop-test : goal.invariant-loop-test
invariant-loop-test l = All (IsOwn l.pp) (take l.test-index l.tests)
