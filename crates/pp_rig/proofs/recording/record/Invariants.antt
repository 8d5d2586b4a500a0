use Rattle.std.proofs.Common.{◌-◌, ◌≡◌, ◌≤◌, length, replicate, take}
use Rattle.pp_actions.specs.declared.action.Action.TheVariants.{Turn}
use Rattle.pp_rig.proofs.TurnRuns.{Ran}
use Rattle.pp_rig.specs.Recording.{moments_of, olds_of}
use Rattle.pp_rig.proofs.recording.record.Given as goal

abbrev pub invariant-loop-turns : goal.invariant-loop-turns
invariant-loop-turns l = record {
  most : l.turns ≤ l.most;
  made_room : l.turns ≤ length l.made;
  olds_room : l.used ≤ length l.olds;
  ran : Ran l.turns l.fn.session l.session;
  moments : take l.turns l.made ≡ moments_of l.fn.session.machine (replicate l.turns Turn);
  olds : take l.used l.olds ≡ olds_of l.fn.session.machine (replicate l.turns Turn);
}

abbrev pub decreases-loop-turns : goal.decreases-loop-turns
decreases-loop-turns l = l.most - l.turns
