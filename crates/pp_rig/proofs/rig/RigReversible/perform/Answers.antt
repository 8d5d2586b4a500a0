use Rattle.pp_actions.specs.declared.action.Action.TheVariants.{Turn}
use Rattle.pp_rig.specs.declared.rig.RigRecord.TheVariants as kept
use Rattle.pp_rig.proofs.Overwritten.{action_taken_back, places_old_values_of}
use Rattle.pp_rig.proofs.rig.RigReversible.perform.Goals as goal

pub returns-in-Turn-clause-kept : goal.returns-in-Turn-clause-kept
returns-in-Turn-clause-kept c =
    let (back, turned, is_kept) = c.perform_turn.ensures.turns in
    let undone = action_taken_back c.args.self.now Turn in
    rw c.in-Turn.is (kept.Turn back, turned.fits, rw (turned.old_values, turned.step) undone, turned.old_values, is_kept)

pub returns-in-Turn-clause-overwritten : goal.returns-in-Turn-clause-overwritten
returns-in-Turn-clause-overwritten c =
    let (back, turned, is_kept) = c.perform_turn.ensures.turns in
    let same_places = places_old_values_of c.args.self.now Turn in
    rw c.in-Turn.is (kept.Turn back, is_kept, rw turned.old_values same_places, turned.old_values, turned.at_most)
