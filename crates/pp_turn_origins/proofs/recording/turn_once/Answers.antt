use Rattle.std.proofs.Common.{◌∙◌, ◌≤◌, ap, arith, is_some, sym}
use Rattle.pp_actions.specs.declared.action.Action.TheVariants.{Turn}
use Rattle.pp_history.specs.SessionLaws.{machine_at}
use Rattle.pp_history.specs.SessionValue.{after_act}
use Rattle.pp_rig.proofs.Runs.{newest_turn}
use Rattle.pp_rig.specs.Rules.{rules}
use Rattle.pp_rig.specs.Stopping.{after_turns, hit_of}
use Rattle.pp_turn_origins.proofs.recording.turn_once.Goals as goal

pub returns-then-is_empty-clause-at : goal.returns-then-is_empty-clause-at
unfolding after_turns
returns-then-is_empty-clause-at c = c.act.ensures.at

pub returns-clause-at : goal.returns-clause-at
unfolding after_turns
returns-clause-at c = c.act.ensures.at

pub returns-clause-hit : goal.returns-clause-hit
returns-clause-hit c =
    let (v, at) = c.has_session_value.ensures in
    let some : 1 ≤ v.capacity = omega (arith, c.capacity-capacity.ensures.at v at, c.capacity-capacity.ensures.in_range) in
    c.newest_changed.ensures (after_act v Turn) (c.act.ensures.at v at) ∙ newest_turn v some
    ∙ ap (λ s. is_some (hit_of s)) (sym (machine_at rules c.args.session.now v at))
