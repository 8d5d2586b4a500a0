use Rattle.std.proofs.Common.{All, take}
use Rattle.pp_search.specs.Plan.{Grows, IsTestListed}
use Rattle.pp_search.proofs.plan.Looked.add_tests.Given as goal

abbrev pub invariant-loop-test : goal.invariant-loop-test
invariant-loop-test l = record {
  added : All (IsTestListed l.self) (take l.test-index l.tests);
  grows : Grows l.fn.self l.self;
}
