use Rattle.pp_search.proofs.plan.address_of.Given as goal

abbrev pub invariant-loop-test : goal.invariant-loop-test
invariant-loop-test l = Unit
