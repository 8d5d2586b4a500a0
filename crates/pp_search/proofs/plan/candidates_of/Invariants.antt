use Rattle.std.proofs.Common.{◌<◌, ◌≤◌, ℕ, All, length}
use Rattle.pp_search.proofs.Chosen.{IsChosen}
use Rattle.pp_search.proofs.plan.candidates_of.Given as goal

abbrev pub invariant-loop-i : goal.invariant-loop-i
invariant-loop-i l = record {
  few : length l.found.alternatives.items ≤ l.i;
  within : All (λ (j : ℕ). j < length l.alternatives) l.found.alternatives.items;
  others : (i : ℕ) → i < l.i → IsChosen l.pp l.alternatives l.found i;
}
