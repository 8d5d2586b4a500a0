use Rattle.std.proofs.Common.{◌≡◌, ◌-◌, ◌≤◌}
use Rattle.pp_history.specs.SessionValue.{Moves}
use Rattle.pp_rig.specs.Rules.{rules}
use Rattle.pp_rig.specs.Stopping.{after_turns, turned}
use Rattle.pp_search.proofs.Steps.{Passed}
use Rattle.pp_search.proofs.search.find_turn.Given as goal

abbrev pub invariant-loop-turns : goal.invariant-loop-turns
invariant-loop-turns l = record {
  within : l.turns ≤ l.most;
  machine : l.session.machine ≡ turned l.turns l.fn.session.machine;
  at : Moves rules l.fn.session l.session (after_turns l.turns);
  passed : Passed l.condition l.most l.fn.session.machine l.turns;
}

abbrev pub decreases-loop-turns : goal.decreases-loop-turns
decreases-loop-turns l = l.most - l.turns
