use Rattle.std.proofs.Common.{◌-◌, ◌≡◌, ◌≤◌, length, take}
use Rattle.pp_rig.proofs.TurnRuns.{Ran}
use Rattle.pp_rig.specs.TurnRows.{rows_before}
use Rattle.pp_rig.proofs.turn_rows.record_rows.Given as goal

abbrev pub invariant-loop-turns : goal.invariant-loop-turns
invariant-loop-turns l = record {
  within : l.turns ≤ l.end;
  room : l.end ≤ length l.rows;
  ran : Ran l.turns l.fn.session l.session;
  rows : take l.turns l.rows ≡ rows_before l.turns l.fn.session.machine;
}

abbrev pub decreases-loop-turns : goal.decreases-loop-turns
decreases-loop-turns l = l.end - l.turns
