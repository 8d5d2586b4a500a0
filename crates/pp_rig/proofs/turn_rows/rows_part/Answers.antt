use Rattle.std.proofs.Common.{◌≡◌, ◌∙◌, ◌<◌, ◌++◌, ap, arith, is_some, length, rules, sym, take}
use Rattle.std.proofs.lemmas.List.{take_more_set}
use Rattle.pp_actions.specs.Watches.{watches_of}
use Rattle.pp_rig.proofs.Runs.{stopped_once, turns_are_acts}
use Rattle.pp_rig.proofs.TurnRows.{rows_one}
use Rattle.pp_rig.proofs.TurnRuns.{ends_unwatched}
use Rattle.pp_rig.proofs.turn_rows.rows_part.Goals as goal

pub returns-then-is_empty-clause-moves : goal.returns-then-is_empty-clause-moves
returns-then-is_empty-clause-moves c = λ v at. rw (turns_are_acts c.repeat_sampled.result v) (c.repeat_sampled.ensures.at v at)

pub returns-then-is_empty-clause-stops : goal.returns-then-is_empty-clause-stops
returns-then-is_empty-clause-stops c =
    let none : length (watches_of c.args.session.now.machine) ≡ 0 = search rules in
    ends_unwatched c.repeat_sampled.result c.args.session.now.machine none

pub returns-clause-stops : goal.returns-clause-stops
returns-clause-stops c =
    let once = stopped_once c.args.session.now.machine in
    (ap (λ done. done.turns) once, ap (λ done. is_some done.hit) once ∙ sym c.turn_once.ensures.hit)

pub returns-clause-rows : goal.returns-clause-rows
returns-clause-rows c =
    let within : c.args.first < length c.args.rows.now = omega (arith, c.requires.room, c.requires.some) in
    take_more_set c.args.rows.now c.args.first c.sample.result within
    ∙ ap (λ rows. take c.args.first c.args.rows.now ++ rows)
    (rw (c.sample.ensures, c.machine-2.ensures.value) (sym (rows_one c.args.session.now.machine)))
