use Rattle.std.proofs.Common.{◌≡◌, ◌∙◌, ◌<◌, ◌++◌, ap, arith, is_some, length, rules, sym, take}
use Rattle.std.proofs.lemmas.List.{take_more_set}
use Rattle.pp_actions.specs.Watches.{watches_of}
use Rattle.pp_rig.proofs.Recordings.{moments_are, moments_one, olds_are, olds_one}
use Rattle.pp_rig.proofs.Runs.{stopped_once, turns_are_acts}
use Rattle.pp_rig.proofs.TurnRuns.{ends_unwatched}
use Rattle.pp_rig.proofs.recording.record_part.Goals as goal

pub returns-then-is_empty-clause-moves : goal.returns-then-is_empty-clause-moves
returns-then-is_empty-clause-moves c =
    λ v at. rw (turns_are_acts c.repeat_recorded.result.count v) (c.repeat_recorded.ensures.at v at)

pub returns-then-is_empty-clause-stops : goal.returns-then-is_empty-clause-stops
returns-then-is_empty-clause-stops c =
    let none : length (watches_of c.args.session.now.machine) ≡ 0 = search rules in
    ends_unwatched c.repeat_recorded.result.count c.args.session.now.machine none

pub returns-then-is_empty-clause-moments : goal.returns-then-is_empty-clause-moments
returns-then-is_empty-clause-moments c =
    c.repeat_recorded.ensures.recorded.moments
    ∙ ap (λ moments. take c.args.turns c.args.made.now ++ moments)
    (moments_are c.repeat_recorded.result.count c.args.session.now.machine)

pub returns-then-is_empty-clause-olds : goal.returns-then-is_empty-clause-olds
returns-then-is_empty-clause-olds c =
    c.repeat_recorded.ensures.recorded.overwritten
    ∙ ap (λ olds. take c.args.used c.args.olds.now ++ olds) (olds_are c.repeat_recorded.result.count c.args.session.now.machine)

pub returns-clause-stops : goal.returns-clause-stops
returns-clause-stops c =
    let once = stopped_once c.args.session.now.machine in
    (ap (λ done. done.turns) once, ap (λ done. is_some done.hit) once ∙ sym c.record_turn-hit.ensures.hit)

pub returns-clause-moments : goal.returns-clause-moments
returns-clause-moments c =
    let s = c.args.session.now.machine in
    let moment = c.record_turn-hit.result.0 in
    let within : c.args.turns < length c.args.made.now = omega (arith, c.requires.made_room, c.requires.some) in
    take_more_set c.args.made.now c.args.turns moment within
    ∙ ap (λ moments. take c.args.turns c.args.made.now ++ moments) (rw c.record_turn-hit.ensures.moment (sym (moments_one s)))

pub returns-clause-olds : goal.returns-clause-olds
returns-clause-olds c =
    c.record_turn-hit.ensures.olds
    ∙ ap (λ olds. take c.args.used c.args.olds.now ++ olds) (sym (olds_one c.args.session.now.machine))
