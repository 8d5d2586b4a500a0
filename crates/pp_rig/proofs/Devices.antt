-- The devices of a turn: their steps, and what their undo records have, if they were called.
use Rattle.pp_rig.proofs.Names.{◌≡◌, ◌≤◌, ◌∷◌, ◌++◌, ap, false, None, length, arith, all-laws, all_model, of_device, lookup}
use Rattle.pp_rig.proofs.Names.{Place, devices_old_values, end_parts, rest_of_turn, processor_step, turn_parts, TurnRest}
use Rattle.pp_machine.proofs.DeviceSteps.{device-steps}

-- the parts of a turn, with the steps of the devices by their models
pub by_models : processor_step ∷ rest_of_turn ≡ turn_parts
by_models = ap (λ devices. processor_step ∷ (devices ++ end_parts)) device-steps

pub devices-at_most : (r : TurnRest) → length (devices_old_values r) ≤ all_model.most
devices-at_most r = grind (arith, all-laws.at_most r.devices)

-- a place that no device has
pub not_by_devices : (r : TurnRest) (p : Place) → of_device p ≡ false → lookup (devices_old_values r) p ≡ None
not_by_devices r p e = grind (arith, all-laws.not_by r.devices p e)
