use Rattle.std.proofs.Common.{arith, refl}
use Rattle.pp_actions.specs.declared.action.Action.TheVariants.{Turn}
use Rattle.pp_history.specs.SessionLaws.{machine_at}
use Rattle.pp_history.specs.SessionValue.{IsAt, after_act}
use Rattle.pp_rig.specs.Rules.{rules as rig}
use Rattle.pp_rig.specs.Stopping.{after_turns}
use Rattle.pp_rig.proofs.recording.record_turn.Goals as goal

pub record_newest-requires-clause-some : goal.record_newest-requires-clause-some
unfolding after_turns
record_newest-requires-clause-some c =
    let (v, at) = c.has_session_value.ensures in
    let moved : IsAt rig c.turn_once-hit.new.session (after_act v Turn) = c.turn_once-hit.ensures.at v at in
    grind (arith, moved.kept, c.capacity-capacity.ensures.at v at, c.capacity-capacity.ensures.in_range)

pub returns-clause-moment : goal.returns-clause-moment
unfolding after_turns
returns-clause-moment c =
    let (v, at) = c.has_session_value.ensures in
    let moved : IsAt rig c.turn_once-hit.new.session (after_act v Turn) = c.turn_once-hit.ensures.at v at in
    let (count, olds) = rw (← machine_at rig c.args.session.now v at) at
    (c.record_newest.ensures.olds (after_act v Turn) Turn v.standing moved refl) in
    grind (arith, count, c.machine.ensures.value, c.slot-slot.ensures)

pub returns-clause-olds : goal.returns-clause-olds
unfolding after_turns
returns-clause-olds c =
    let (v, at) = c.has_session_value.ensures in
    let moved : IsAt rig c.turn_once-hit.new.session (after_act v Turn) = c.turn_once-hit.ensures.at v at in
    let (count, olds) = rw (← machine_at rig c.args.session.now v at) at
    (c.record_newest.ensures.olds (after_act v Turn) Turn v.standing moved refl) in olds
