use Rattle.pp_search.proofs.Listed.{listed_covered}
use Rattle.pp_search.proofs.plan.plan_for.Goals as goal

pub returns : goal.returns
returns c = record {
  covered = λ none. listed_covered c.of.result c.add_all.new.self none (rw c.as_slice-2.ensures.value at c.of.ensures)
      c.args.condition.now (rw c.as_slice.ensures.value at c.add_all.ensures.added);
  processors = c.all_candidates.ensures.processors;
  candidates = rw c.as_slice-3.ensures.value at c.all_candidates.ensures.candidates;
}
