use Rattle.std.proofs.Common.{◌≡◌, ◌<◌, ℕ, get_or, length}
use Rattle.pp_search.specs.Plan.{AreCandidates}
use Rattle.pp_search.specs.declared.plan.Candidates.{Candidates}
use Rattle.pp_search.proofs.plan.all_candidates.Given as goal

abbrev pub invariant-loop-pp : goal.invariant-loop-pp
invariant-loop-pp l = record {
  count : length l.found.items ≡ l.pp;
  candidates : (n : ℕ) (d : Candidates) → n < l.pp → AreCandidates n l.alternatives (get_or l.found.items n d);
}
