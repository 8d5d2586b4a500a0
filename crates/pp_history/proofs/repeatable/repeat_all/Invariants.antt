use Rattle.pp_history.proofs.Names.{◌≡◌, ◌≤◌, AreActed, drop, length}
use Rattle.pp_history.proofs.repeatable.repeat_all.Given as goal

abbrev pub invariant-loop-left : goal.invariant-loop-left
invariant-loop-left g l = record {
  within : l.left ≤ length l.heads;
  same_length : length l.heads ≡ length l.initial.heads;
  acted : AreActed g.T.Reversible g.T.Repeatable.repeated (drop l.left l.heads) l.initial.machine l.machine l.initial.tails l.tails;
}

abbrev pub decreases-loop-left : goal.decreases-loop-left
decreases-loop-left g l = l.left
