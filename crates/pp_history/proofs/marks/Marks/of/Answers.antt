use Rattle.std.{proofs.Common.arith, proofs.lemmas.Bool.Decides.nat_tests, proofs.lemmas.Grind.common_steps}
use Rattle.pp_history.proofs.marks.Marks.of.Goals as goal

pub loop-place-preserved : goal.loop-place-preserved
loop-place-preserved g c = λ k d within.
    grind (arith, common_steps, nat_tests, c.loop-place.invariant k d, c.add.ensures.keeps_covered)
