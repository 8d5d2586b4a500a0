-- The undo records of turns, short and long.
use Rattle.std.specs.Prelude.{◌≡◌, ◌≤◌, length}
use Rattle.pp_machine.specs.Machine.{Machine}
use Rattle.pp_rig.specs.Inner.TurnRecords.{most_turn_places, turn_old_values, turn_pairs}
use Rattle.pp_rig.specs.{Inner.ActionRecords.FitsRecord, Turn.turn, declared.rig.TurnRecord.TurnRecord}
use Rattle.pp_rig.specs.{declared.rig.ShortTurn.ShortTurn, declared.rig.RigRecord.RigRecord}
use Rattle.pp_step.specs.declared.record.PpRecord.TheVariants.{Step}
use Rattle.pp_actions.specs.{declared.action.Action.Action, declared.action.Action.TheVariants.Turn}
use Rattle.pp_rig.specs.declared.rig.RigRecord.TheVariants as kept

-- the whole undo record that a short one represents
abbrev pub whole_turn : ShortTurn → TurnRecord
whole_turn s = record { pp = Step s.pp; rest = s.rest }

abbrev pub whole : ShortTurn → RigRecord
whole s = kept.Turn (whole_turn s)

-- a short undo record is that of a turn
abbrev pub unpacked : ShortTurn → Action × RigRecord
unpacked s = (Turn, whole s)

-- a turn and its undo record
pub record IsTurned (old new : Machine) (back : TurnRecord) : Type 0 where
  pub step : new ≡ turn old
  pub old_values : turn_pairs back ≡ turn_old_values old
  pub fits : FitsRecord (kept.Turn back) new
  pub at_most : length (turn_pairs back) ≤ most_turn_places
