-- The write list and the undo record of a turn.
use Rattle.std.specs.Prelude.{ℕ, true, ◌+◌, ◌<◌, ◌≤◌, ◌≡◌, List, [], ◌∷◌, ◌++◌, length, if◌then◌else◌, ◌==◌}
use Rattle.pp_machine.specs.Inner.PartWrites.{ArePerformed, parts_old_values, parts_writes}
use Rattle.pp_machine.specs.Prelude.{Machine, over, old_values, renamed, Writes}
use Rattle.pp_machine.specs.{Inner.AllDevices.all_model, Parts.Part, Ranges.processor_count, declared.place.Place.Place}
use Rattle.pp_machine.specs.{declared.place.Place.TheVariants.Clock, declared.place.Place.TheVariants.Slot}
use Rattle.pp_step.specs.{Step.pp_pairs, Step.most_step_places, Step.FitsPp, View.pp_place, declared.record.PpRecord.PpRecord}
use Rattle.pp_rig.specs.Turn.{clock_step, processor_step, slot_step, turn_parts}
use Rattle.pp_rig.specs.{declared.rig.TurnRecord.TurnRecord, declared.rig.TurnRest.TurnRest}

-- the steps of the devices, by their models
abbrev pub device_parts : List Part
device_parts = all_model.parts

abbrev pub end_parts : List Part
end_parts = clock_step ∷ slot_step ∷ []

-- the parts after the processor's step
abbrev pub rest_of_turn : List Part
rest_of_turn = device_parts ++ end_parts

-- what a turn writes, the latest part first
unfoldable pub turn_writes : Machine → Writes Place
turn_writes = parts_writes turn_parts

unfoldable pub turn_old_values : Machine → Writes Place
turn_old_values = parts_old_values turn_parts

-- the places that the rest of a turn's record has at most: those of the devices, the clock and the slot
abbrev pub most_rest_places : ℕ
most_rest_places = all_model.most + 2

-- the places that a turn's record has at most: those of the processor's step and of the rest, 44 (decimal) with a reader and
-- a printer
abbrev pub most_turn_places : ℕ
most_turn_places = most_step_places + most_rest_places

-- if no channel of a device was active, the devices did nothing
abbrev pub devices_old_values : TurnRest → Writes Place
devices_old_values r = if r.are_devices_called then all_model.pairs r.devices else []

-- the clock before the turn of the last processor
abbrev pub clock_old_values : ℕ → ℕ → Writes Place
clock_old_values slot clock = if slot == 0o11 then (Clock, clock) ∷ [] else []

abbrev pub end_old_values : TurnRest → Writes Place
end_old_values r = clock_old_values r.slot r.clock ++ (Slot, r.slot) ∷ []

-- the places of the undo record of the rest of a turn, with the old numbers
unfoldable pub rest_pairs : TurnRest → Writes Place
rest_pairs r = devices_old_values r ++ end_old_values r

-- the places of a turn's record, with the old numbers: of two pairs for one place the first counts
unfoldable pub turn_pairs : TurnRecord → Writes Place
turn_pairs r = renamed (pp_place r.rest.slot) (pp_pairs r.pp) ++ rest_pairs r.rest

pub record FitsRest (r : TurnRest) (s : Machine) : Type 0 where
  pub slot : r.slot < processor_count
  pub clock : r.slot ≡ 0o11 → r.clock < 0o10000
  pub devices : r.are_devices_called ≡ true → all_model.Fits r.devices (over s (end_old_values r))

pub record FitsTurn (r : TurnRecord) (s : Machine) : Type 0 where
  pub rest : FitsRest r.rest s
  pub pp : FitsPp s.setup.central_words r.pp

-- what only the end of a turn changes
pub record KeepsSlot (old new : Machine) : Type 0 where
  pub slot : new.slot ≡ old.slot
  pub setup : new.setup ≡ old.setup

-- the step of the processor in the slot and its undo record (`pp_step` `Step: IsStep`), in the machine
pub record IsSlotStep (old new : Machine) (back : PpRecord) : Type 0 where
  pub step : new ≡ over old (processor_step old)
  pub old_values : renamed (pp_place old.slot) (pp_pairs back) ≡ old_values old (processor_step old)
  pub fits : FitsPp new.setup.central_words back
  pub at_most : length (pp_pairs back) ≤ most_step_places
  pub kept : KeepsSlot old new

-- the steps of the devices, and their undo records
pub record AreDevicesStepped (old new : Machine) (r : TurnRest) : Type 0 where
  pub performed : ArePerformed device_parts old new (devices_old_values r)
  pub fits : r.are_devices_called ≡ true → all_model.Fits r.devices new
  pub kept : KeepsSlot old new
