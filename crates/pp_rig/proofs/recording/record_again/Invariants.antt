use Rattle.std.proofs.Common.{◌-◌, ◌≡◌, ◌≤◌, length, take}
use Rattle.pp_history.specs.SessionValue.{Moves, after_forward, performed}
use Rattle.pp_rig.specs.Recording.{moments_of, olds_of}
use Rattle.pp_rig.specs.Rules.{rules}
use Rattle.pp_rig.proofs.recording.record_again.Given as goal

abbrev pub invariant-loop-actions : goal.invariant-loop-actions
invariant-loop-actions l = record {
  most : l.actions ≤ l.most;
  made_room : l.actions ≤ length l.made;
  olds_room : l.used ≤ length l.olds;
  moves : Moves rules l.fn.session l.session (λ v. after_forward v l.actions);
  machine : l.session.machine ≡ performed rules l.fn.session.machine (take l.actions l.fn.session.ahead);
  moments : take l.actions l.made ≡ moments_of l.fn.session.machine (take l.actions l.fn.session.ahead);
  olds : take l.used l.olds ≡ olds_of l.fn.session.machine (take l.actions l.fn.session.ahead);
}

abbrev pub decreases-loop-actions : goal.decreases-loop-actions
decreases-loop-actions l = l.most - l.actions
