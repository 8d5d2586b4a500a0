use Rattle.std.proofs.Common.{arith}
use Rattle.pp_search.proofs.Chosen.{candidates_more}
use Rattle.pp_search.proofs.plan.all_candidates.Goals as goal

pub loop-pp-preserved : goal.loop-pp-preserved
loop-pp-preserved c = record {
  count = omega (arith, c.push.ensures.len, c.loop-pp.invariant.count);
  candidates = rw c.push.ensures.items (candidates_more c.loop-pp.found.items c.candidates_of.result c.args.alternatives.now
      c.loop-pp.pp
      c.loop-pp.invariant.count c.loop-pp.invariant.candidates c.candidates_of.ensures);
}
