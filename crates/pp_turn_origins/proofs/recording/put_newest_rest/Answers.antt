use Rattle.std.proofs.Common.{◌≡◌, ◌∙◌, ap}
use Rattle.pp_history.specs.SessionLaws.{machine_at}
use Rattle.pp_history.specs.SessionValue.{replay}
use Rattle.pp_rig.specs.Rules.{rules as rig}
use Rattle.pp_rig.specs.Turn.{turn}
use Rattle.pp_turn_origins.proofs.WholeTurn.{newest_turn}
use Rattle.pp_turn_origins.proofs.recording.put_newest_rest.Goals as goal

pub returns-clause-links : goal.returns-clause-links
returns-clause-links c = λ v earlier at same ok slot symbols column.
    let s = replay rig v.start earlier in
    let newest = c.in-Some.ensures.old_values v at in
    let machine : c.machine.result.now ≡ turn s =
    c.machine.ensures.value ∙ machine_at rig c.args.session.now v at ∙ ap (replay rig v.start) same in
    c.put_rest.ensures.items s ok machine (newest_turn v.start v.standing earlier _ newest same) slot symbols column
