use Rattle.std.proofs.Common.{◌-◌, ◌≡◌, ◌*◌, ◌≤◌, length, take}
use Rattle.pp_rig.proofs.TurnRuns.{Ran}
use Rattle.pp_rig.specs.Columns.{rows_of}
use Rattle.pp_rig.proofs.columns.look.Given as goal

abbrev pub invariant-loop-turns : goal.invariant-loop-turns
invariant-loop-turns l = record {
  most : l.turns ≤ l.most;
  used : l.used ≡ l.turns * length l.places;
  room : l.used ≤ length l.into;
  ran : Ran l.turns l.fn.session l.session;
  rows : take l.used l.into ≡ rows_of l.turns l.fn.session.machine l.places;
}

abbrev pub decreases-loop-turns : goal.decreases-loop-turns
decreases-loop-turns l = l.most - l.turns
