use Rattle.std.proofs.Common.{arith, length}
use Rattle.pp_search.proofs.Chosen.{chosen_more}
use Rattle.pp_search.proofs.plan.candidates_of.Goals as goal

pub loop-i-preserved : goal.loop-i-preserved
loop-i-preserved c =
    let added = c.add_candidate.ensures in
    record {
      few = omega (arith, added.few, c.loop-i.invariant.few);
      within = added.within (length c.args.alternatives.now) c.loop-i-test.true c.loop-i.invariant.within;
      others = chosen_more c.loop-i.found c.add_candidate.new.candidates c.args.alternatives.now c.args.pp
          c.loop-i.i c.index-alternatives-i.result c.loop-i-test.true added.keeps_numbers added.keeps c.loop-i.invariant.others
          c.index-alternatives-i.is added.added;
    }

pub returns : goal.returns
returns c = record {
  within = c.loop-i.invariant.within;
  others = λ i d less. c.loop-i.invariant.others i (omega (arith, less, c.loop-i-test.false)) d;
}
