use Rattle.pp_history.proofs.Names.{◌≡◌, ◌≤◌, AreRedone, drop, length, take}
use Rattle.pp_history.proofs.step.perform_all.Given as goal

abbrev pub invariant-loop-left : goal.invariant-loop-left
invariant-loop-left g l = let heads = l.initial.heads in record {
  within : l.left ≤ length heads;
  same_length : length l.heads ≡ length heads;
  left_alone : take l.left l.heads ≡ take l.left heads;
  room : 1 ≤ l.tails.ring.capacity;
  redone : AreRedone g.T.Reversible (drop l.left heads) (drop l.left l.heads) l.initial.machine l.machine l.initial.tails l.tails
      l.initial.undone l.undone;
}

abbrev pub decreases-loop-left : goal.decreases-loop-left
decreases-loop-left g l = l.left
