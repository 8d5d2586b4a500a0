use Rattle.std.proofs.Common.{◌+◌, ◌<◌, ℕ}
use Rattle.pp_machine.specs.Numbering.{place_at}
use Rattle.pp_search.specs.Plan.{Grows, IsListed}
use Rattle.pp_search.proofs.plan.Looked.add_places.Given as goal

abbrev pub invariant-loop-k : goal.invariant-loop-k
invariant-loop-k l = record {
  added : (k : ℕ) → k < l.k → IsListed l.self (place_at (l.first + k));
  grows : Grows l.fn.self l.self;
}
