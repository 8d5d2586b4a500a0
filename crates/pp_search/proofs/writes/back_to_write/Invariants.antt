use Rattle.std.proofs.Common.{◌≡◌, ◌+◌, ◌-◌, ◌≤◌, length}
use Rattle.pp_history.specs.SessionValue.{AtEach, Moves, after_back}
use Rattle.pp_machine.specs.Numbering.{fixed_places}
use Rattle.pp_rig.specs.Rules.{rules}
use Rattle.pp_search.proofs.LastWrite.{PassedWrites}
use Rattle.pp_search.proofs.writes.back_to_write.Given as goal

abbrev pub invariant-loop-undone : goal.invariant-loop-undone
invariant-loop-undone l = record {
  kept : l.kept ≡ length l.fn.session.records;
  within : l.undone ≤ l.kept;
  left : length l.session.records + l.undone ≡ length l.fn.session.records;
  has : l.first + l.count ≤ fixed_places + l.session.machine.setup.central_words;
  at : Moves rules l.fn.session l.session (λ v. after_back v l.undone);
  passed : AtEach rules l.fn.session (λ v. PassedWrites l.first l.count v l.undone);
}

abbrev pub decreases-loop-undone : goal.decreases-loop-undone
decreases-loop-undone l = l.kept - l.undone
