use Rattle.std.proofs.Common.{◌≡◌, ◌-◌, ◌≤◌}
use Rattle.pp_history.specs.SessionValue.{Moves}
use Rattle.pp_rig.specs.{Rules.rules, Stopping.after_turns, Stopping.stopped}
use Rattle.pp_actions.specs.Watches.{watches_of}
use Rattle.pp_rig.proofs.Runs.{turns_before}
use Rattle.pp_rig.proofs.stopping.run.Given as goal

abbrev pub invariant-loop-turns : goal.invariant-loop-turns
invariant-loop-turns l = record {
  at_most : l.turns ≤ l.n;
  at : Moves rules l.fn.session l.session (after_turns l.turns);
  stopped : stopped l.n l.fn.session.machine ≡ turns_before l.turns (stopped (l.n - l.turns) l.session.machine);
  watches : watches_of l.session.machine ≡ watches_of l.fn.session.machine;
}

abbrev pub decreases-loop-turns : goal.decreases-loop-turns
decreases-loop-turns l = l.n - l.turns
