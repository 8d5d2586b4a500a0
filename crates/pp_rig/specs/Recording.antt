-- What actions overwrote, as numbers: a page or a debugger shows it, and puts it back.
use Rattle.std.specs.Prelude.{◌≡◌, ◌+◌, ◌<◌, ◌≤◌, ◌⊎◌, ℕ, List, [], ◌∷◌, ◌++◌, length, take}
use Rattle.pp_actions.specs.declared.action.Action.{Action}
use Rattle.pp_actions.specs.declared.action.Action.TheVariants.{Turn}
use Rattle.pp_history.specs.Contents.{Contents}
use Rattle.pp_history.specs.SessionValue.{Moves, after_forward}
use Rattle.pp_machine.specs.Machine.{Machine}
use Rattle.pp_machine.specs.Olds.{numbered}
use Rattle.pp_machine.specs.WriteList.{list_room}
use Rattle.pp_rig.specs.Action.{next}
use Rattle.pp_rig.specs.Inner.ActionRecords.{old_values_of}
use Rattle.pp_rig.specs.declared.recording.Moment.{Moment}
use Rattle.pp_rig.specs.Rules.{rules}
use Rattle.pp_machine.specs.declared.olds.Old.{Old}
use Rattle.pp_rig.specs.declared.recording.Redone.{Redone}
use Rattle.pp_rig.specs.declared.rig.RigRecord.{RigRecord}

-- The processor whose turn it was, or 10 (decimal) if the action is no turn.
abbrev pub processor_of : Machine → Action → ℕ
processor_of s Turn = s.slot
processor_of s action = 10

-- An action on this machine: its processor, and how many places it overwrites.
abbrev pub moment_of : Machine → Action → Moment
moment_of s action = record { processor = processor_of s action; count = length (old_values_of s action) }

-- Each of these actions, one after another.
unfoldable pub moments_of : Machine → List Action → List Moment
moments_of s [] = []
moments_of s (action ∷ later) = moment_of s action ∷ moments_of (next s action) later

-- The places that these actions overwrite, one action after another, with the numbers before each action.
unfoldable pub olds_of : Machine → List Action → List Old
olds_of s [] = []
olds_of s (action ∷ later) = numbered (old_values_of s action) ++ olds_of (next s action) later

-- The first actions ahead were performed again, with what they overwrote. There are fewer than were asked for only if there was no
-- more room.
pub record IsRedone (most : ℕ) (old new : Contents Machine Action RigRecord) (made : List Moment) (olds : List Old) (redone : Redone) : Type 0 where
  pub moves : Moves rules old new (λ v. after_forward v redone.actions)
  pub moments : take redone.actions made ≡ moments_of old.machine (take redone.actions old.ahead)
  pub overwritten : take redone.olds olds ≡ olds_of old.machine (take redone.actions old.ahead)
  pub within : (redone.actions ≤ most) × (redone.actions ≤ length made) × (redone.olds ≤ length olds)
  pub full : (most ≤ redone.actions) ⊎ ((length made ≤ redone.actions) ⊎ (length olds < redone.olds + list_room))
