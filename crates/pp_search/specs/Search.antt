-- The first turn in which a condition comes to hold, the last action before the newest in which it did, and the last that wrote a
-- place.
use Rattle.std.specs.Prelude.{◌≡◌, ℕ, zero, suc, ◌+◌, ◌-◌, ◌<◌, ◌≤◌, Bool, false, true, List}
use Rattle.std.specs.Prelude.{[], ◌∷◌, drop, Option, Some, None, if◌then◌else◌}
use Rattle.pp_actions.specs.declared.action.Action.{Action}
use Rattle.pp_actions.specs.declared.action.Action.TheVariants.{Turn}
use Rattle.pp_history.specs.SessionValue.{SessionValue, replay}
use Rattle.pp_machine.specs.Machine.{Machine}
use Rattle.pp_rig.specs.Inner.ActionRecords.{old_values_of}
use Rattle.pp_rig.specs.Rules.{rules}
use Rattle.pp_rig.specs.Stopping.{turned}
use Rattle.pp_search.specs.Condition.{comes_in, is_of_any, is_written}
use Rattle.pp_search.specs.declared.condition.Condition.{Condition}

-- The least of so many numbers, from this one on, of which something holds.
abbrev pub least : (ℕ → Bool) → ℕ → ℕ → Option ℕ
least is from zero = None
least is from (suc count) = if is from then Some from else least is (from + 1) count

-- The condition comes to hold in the k-th turn from here, counted from 1.
abbrev pub comes_in_turn : Condition → Machine → ℕ → Bool
comes_in_turn condition s k = comes_in condition (turned (k - 1) s) Turn

-- The first of at most so many turns in which the condition comes to hold.
unfoldable pub first_turn : Condition → ℕ → Machine → Option ℕ
first_turn condition most s = least (comes_in_turn condition s) 1 most

-- The condition came to hold in the newest of these actions, the newest first.
abbrev pub came_in_newest : Condition → Machine → List Action → Bool
came_in_newest condition start [] = false
came_in_newest condition start (action ∷ earlier) = comes_in condition (replay rules start earlier) action

-- It came to hold in the action that is the newest when k actions have been undone.
abbrev pub came_in : Condition → SessionValue Machine Action → ℕ → Bool
came_in condition v k = came_in_newest condition v.start (drop k v.standing)

-- How many actions must be undone so that the newest is one in which the condition came to hold: the least number, from 1 on. Only
-- actions that can be undone are searched.
unfoldable pub last_before : Condition → SessionValue Machine Action → Option ℕ
last_before condition v = least (came_in condition v) 1 (v.kept - 1)

-- The newest of these actions, the newest first, wrote one of so many places from the one with this number on.
abbrev pub wrote_newest : ℕ → ℕ → Machine → List Action → Bool
wrote_newest first count start [] = false
wrote_newest first count start (action ∷ earlier) =
    is_of_any (is_written (old_values_of (replay rules start earlier) action)) first count

-- The action with k newer ones wrote one of them.
abbrev pub wrote_in : ℕ → ℕ → SessionValue Machine Action → ℕ → Bool
wrote_in first count v k = wrote_newest first count v.start (drop k v.standing)

-- How many actions are newer than the newest that wrote one of them. Only actions that can be undone are searched.
unfoldable pub last_write : ℕ → ℕ → SessionValue Machine Action → Option ℕ
last_write first count v = least (wrote_in first count v) 0 v.kept

-- The k-th turn is one of the first `most`. The condition comes to hold in it, and in no turn before it.
pub record IsFirst (condition : Condition) (most : ℕ) (s : Machine) (k : ℕ) : Type 0 where
  pub some : 1 ≤ k
  pub within : k ≤ most
  pub comes : comes_in_turn condition s k ≡ true
  pub earlier : (j : ℕ) → 1 ≤ j → j < k → comes_in_turn condition s j ≡ false
