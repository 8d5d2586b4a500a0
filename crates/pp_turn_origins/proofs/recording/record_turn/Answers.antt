use Rattle.std.proofs.Common.{◌≡◌, ◌∙◌, ◌+◌, ◌≤◌, arith, length, refl, subst, take}
use Rattle.std.proofs.lemmas.List.{length-take-le}
use Rattle.pp_actions.specs.declared.action.Action.TheVariants.{Turn}
use Rattle.pp_history.specs.SessionLaws.{machine_at}
use Rattle.pp_history.specs.SessionValue.{IsAt, after_act, replay}
use Rattle.pp_rig.specs.Rules.{rules as rig}
use Rattle.pp_rig.specs.Stopping.{after_turns}
use Rattle.pp_turn_origins.specs.Inner.{IsBegun, IsEnded}
use Rattle.pp_turn_origins.proofs.recording.record_turn.Goals as goal

pub end_turn-made-requires-clause-some : goal.end_turn-made-requires-clause-some
unfolding after_turns
end_turn-made-requires-clause-some c =
    let (v, at) = c.has_session_value.ensures in
    let moved : IsAt rig c.turn_once-hit.new.session (after_act v Turn) = c.turn_once-hit.ensures.at v at in
    grind (arith, moved.kept, c.capacity-capacity.ensures.at v at, c.capacity-capacity.ensures.in_range)

pub returns-clause-made : goal.returns-clause-made
unfolding after_turns
returns-clause-made c =
    let (v, at) = c.has_session_value.ensures in
    let links = c.args.links.now in
    let moved : IsAt rig c.turn_once-hit.new.session (after_act v Turn) = c.turn_once-hit.ensures.at v at in
    let here = machine_at rig c.args.session.now v at in
    let begun = subst (λ s. IsBegun s (take c.args.used links) c.begin_turn-begun.new.links c.begin_turn-begun.result)
    (c.machine.ensures.value ∙ here) c.begin_turn-begun.ensures.begun in
    let count : length (take c.args.used links) ≡ c.args.used = length-take-le c.args.used links (omega (arith, c.requires.links))
    in
    let ended = c.end_turn-made.ensures.ended (after_act v Turn) v.standing (take c.args.used links) moved refl count begun in
    rw here ended.turn

pub returns-clause-links : goal.returns-clause-links
unfolding after_turns
returns-clause-links c =
    let (v, at) = c.has_session_value.ensures in
    let links = c.args.links.now in
    let moved : IsAt rig c.turn_once-hit.new.session (after_act v Turn) = c.turn_once-hit.ensures.at v at in
    let here = machine_at rig c.args.session.now v at in
    let begun = subst (λ s. IsBegun s (take c.args.used links) c.begin_turn-begun.new.links c.begin_turn-begun.result)
    (c.machine.ensures.value ∙ here) c.begin_turn-begun.ensures.begun in
    let count : length (take c.args.used links) ≡ c.args.used = length-take-le c.args.used links (omega (arith, c.requires.links))
    in
    let ended = c.end_turn-made.ensures.ended (after_act v Turn) v.standing (take c.args.used links) moved refl count begun in
    rw here (rw count at ended.items)

pub returns-clause-olds : goal.returns-clause-olds
unfolding after_turns
returns-clause-olds c =
    let (v, at) = c.has_session_value.ensures in
    let links = c.args.links.now in
    let moved : IsAt rig c.turn_once-hit.new.session (after_act v Turn) = c.turn_once-hit.ensures.at v at in
    let here = machine_at rig c.args.session.now v at in
    let begun = subst (λ s. IsBegun s (take c.args.used links) c.begin_turn-begun.new.links c.begin_turn-begun.result)
    (c.machine.ensures.value ∙ here) c.begin_turn-begun.ensures.begun in
    let count : length (take c.args.used links) ≡ c.args.used = length-take-le c.args.used links (omega (arith, c.requires.links))
    in
    let before : length (take c.args.overwritten c.args.olds.now) ≡ c.args.overwritten =
    length-take-le c.args.overwritten c.args.olds.now (omega (arith, c.requires.olds)) in
    let ended = c.end_turn-made.ensures.ended (after_act v Turn) v.standing (take c.args.used links) moved refl count begun in
    rw here (rw before at ended.overwritten)
