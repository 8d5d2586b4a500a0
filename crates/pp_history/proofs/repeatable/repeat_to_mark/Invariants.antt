use Rattle.pp_history.proofs.Names.{◌≡◌, ◌-◌, ◌≤◌, AreActed, AreUnmarked, drop, length, take}
use Rattle.pp_history.proofs.repeatable.repeat_to_mark.Given as goal

abbrev pub invariant-loop-left : goal.invariant-loop-left
invariant-loop-left g l = let T = g.T.Reversible in let action = g.T.Repeatable.repeated in let heads = l.initial.heads in record {
  within : l.left ≤ length heads;
  same_length : length l.heads ≡ length heads;
  left_alone : take l.left l.heads ≡ take l.left heads;
  acted : AreActed T action (drop l.left l.heads) l.initial.machine l.machine l.initial.tails l.tails;
  unmarked : AreUnmarked T g.T.Marked.marks_of l.marks action (length heads - l.left) l.initial.machine;
}

abbrev pub decreases-loop-left : goal.decreases-loop-left
decreases-loop-left g l = l.left
