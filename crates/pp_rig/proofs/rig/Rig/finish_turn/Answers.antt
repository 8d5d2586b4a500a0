use Rattle.pp_rig.proofs.Names.{both-performed, device_parts, end_parts, rest_pairs}
use Rattle.pp_rig.proofs.rig.Rig.finish_turn.Goals as goal

pub returns-clause-performed : goal.returns-clause-performed
unfolding rest_pairs
returns-clause-performed c =
    let both = both-performed device_parts end_parts _ _ _ _ _ c.step_devices.ensures.performed c.end_turn.ensures.performed in
    rw (c.end_turn.ensures.called, c.end_turn.ensures.devices) both
