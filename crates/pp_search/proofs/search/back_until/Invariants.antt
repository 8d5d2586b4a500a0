use Rattle.std.proofs.Common.{◌≡◌, ◌+◌, ◌-◌, ◌≤◌, length}
use Rattle.pp_history.specs.SessionValue.{AtEach, Moves, after_back}
use Rattle.pp_rig.specs.Rules.{rules}
use Rattle.pp_search.proofs.Steps.{PassedBack}
use Rattle.pp_search.specs.Condition.{HasAllPlaces}
use Rattle.pp_search.proofs.search.back_until.Given as goal

abbrev pub invariant-loop-undone : goal.invariant-loop-undone
invariant-loop-undone l = record {
  last : l.last ≡ length l.fn.session.records - 1;
  within : l.undone ≤ l.last;
  left : length l.session.records + l.undone ≡ length l.fn.session.records;
  has : HasAllPlaces l.session.machine.setup.central_words l.condition;
  at : Moves rules l.fn.session l.session (λ v. after_back v l.undone);
  passed : AtEach rules l.fn.session (λ v. PassedBack l.condition v l.undone);
}

abbrev pub decreases-loop-undone : goal.decreases-loop-undone
decreases-loop-undone l = l.last - l.undone
