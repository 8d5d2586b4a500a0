use Rattle.std.proofs.Common.{◌-◌, ◌≡◌, ◌≤◌, length, replicate, take}
use Rattle.pp_actions.specs.declared.action.Action.TheVariants.{Turn}
use Rattle.pp_rig.proofs.TurnRuns.{Ran}
use Rattle.pp_rig.specs.Recording.{olds_of}
use Rattle.pp_turn_origins.specs.Recording.{all_links, all_made}
use Rattle.pp_turn_origins.proofs.recording.record_origins.Given as goal

abbrev pub invariant-loop-turns : goal.invariant-loop-turns
invariant-loop-turns l = record {
  most : l.turns ≤ l.most;
  made_room : l.turns ≤ length l.made;
  links_room : l.used ≤ length l.links;
  olds_room : l.overwritten ≤ length l.olds;
  ran : Ran l.turns l.fn.session l.session;
  made : take l.turns l.made ≡ all_made l.turns l.fn.session.machine;
  links : take l.used l.links ≡ all_links l.turns l.fn.session.machine;
  olds : take l.overwritten l.olds ≡ olds_of l.fn.session.machine (replicate l.turns Turn);
}

abbrev pub decreases-loop-turns : goal.decreases-loop-turns
decreases-loop-turns l = l.most - l.turns
