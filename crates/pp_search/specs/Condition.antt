-- Conditions on the machine, and in which actions one comes to hold.
use Rattle.std.specs.Prelude.{ℕ, zero, suc, ◌+◌, ◌<◌, ◌≤◌, ◌==◌, Bool, false, not, ◌&&◌, ◌||◌}
use Rattle.std.specs.Prelude.{nat_lt, List, All, Option, Some, None, is_some}
use Rattle.std.specs.List.{list_all, list_any}
use Rattle.pp_actions.specs.declared.action.Action.{Action}
use Rattle.pp_machine.specs.Machine.{Machine, number}
use Rattle.pp_machine.specs.Numbering.{fixed_places, place_at}
use Rattle.pp_machine.specs.Prelude.{Has, Writes, lookup}
use Rattle.pp_machine.specs.Ranges.{processor_count}
use Rattle.pp_machine.specs.declared.place.Place.{Place}
use Rattle.pp_machine.specs.declared.place.Place.TheVariants.{Phase, RegP, Slot}
use Rattle.pp_rig.specs.Action.{next}
use Rattle.pp_rig.specs.Inner.ActionRecords.{old_values_of}
use Rattle.pp_search.specs.declared.condition.Alternative.{Alternative}
use Rattle.pp_search.specs.declared.condition.Condition.{Condition}
use Rattle.pp_search.specs.declared.condition.Test.{Test}
use Rattle.pp_search.specs.declared.condition.Test.TheVariants.{Changes, Inside, Outside, Performs, Waits, WritesTo}

-- The number is from the first to the last.
abbrev pub is_inside : ℕ → ℕ → ℕ → Bool
is_inside first last n = not (nat_lt n first) && not (nat_lt last n)

-- It is so of one of this many places, in the order of all places, from the one with this number on.
abbrev pub is_of_any : (Place → Bool) → ℕ → ℕ → Bool
is_of_any is first zero = false
is_of_any is first (suc count) = is (place_at first) || is_of_any is (first + 1) count

abbrev pub is_changed : Machine → Machine → Place → Bool
is_changed old new place = not (number old place == number new place)

-- The place is among those that an action overwrote, whether its number is another one now or not.
abbrev pub is_written : Writes Place → Place → Bool
is_written old_values place = is_some (lookup old_values place)

-- The action was a turn of this processor: the slot was the processor's, and moved on.
abbrev pub is_turn_of : ℕ → Option ℕ → Bool
is_turn_of n None = false
is_turn_of n (Some slot) = slot == n

-- Whether a test holds of a machine as it is. Tests of an action do not.
abbrev pub is_met : Test → Machine → Bool
is_met (Inside place first last) s = is_inside first last (number s place)
is_met (Outside place first last) s = not (is_inside first last (number s place))
is_met (Performs n address) s = number s (RegP n) == address && number s (Phase n) == 0
is_met (Changes first count) s = false
is_met (WritesTo first count) s = false
is_met (Waits n) s = false

-- Whether a test holds of an action: by the machine before it, what it overwrote, with the old values, and the machine after it. A
-- processor waits in a turn of its own in which not even P is written.
abbrev pub holds : Test → Machine → Writes Place → Machine → Bool
holds (Changes first count) old old_values new = is_of_any (is_changed old new) first count
holds (WritesTo first count) old old_values new = is_of_any (is_written old_values) first count
holds (Waits n) old old_values new = is_turn_of n (lookup old_values Slot) && not (is_written old_values (RegP n))
holds test old old_values new = is_met test new

abbrev pub all_hold : List Test → Machine → Writes Place → Machine → Bool
all_hold tests old old_values new = list_all (λ test. holds test old old_values new) tests

abbrev pub all_met : List Test → Machine → Bool
all_met tests s = list_all (λ test. is_met test s) tests

-- An alternative comes to hold in an action: all its tests hold of it, and not all held of the machine before. So one that has a
-- test of an action comes to hold in each action of which all its tests hold.
abbrev pub comes : Alternative → Machine → Writes Place → Machine → Bool
comes alternative old old_values new =
    all_hold alternative.tests.items old old_values new && not (all_met alternative.tests.items old)

-- A condition comes to hold if one of its alternatives does.
abbrev pub comes_to_hold : Condition → Machine → Writes Place → Machine → Bool
comes_to_hold condition old old_values new =
    list_any (λ alternative. comes alternative old old_values new) condition.alternatives.items

-- The condition comes to hold in this action on this machine.
abbrev pub comes_in : Condition → Machine → Action → Bool
comes_in condition s action = comes_to_hold condition s (old_values_of s action) (next s action)

-- A machine with this many words of central memory has the places of a test.
abbrev pub HasPlaces : ℕ → Test → Type 0
HasPlaces size (Inside place first last) = Has size place
HasPlaces size (Outside place first last) = Has size place
HasPlaces size (Changes first count) = first + count ≤ fixed_places + size
HasPlaces size (WritesTo first count) = first + count ≤ fixed_places + size
HasPlaces size (Performs n address) = n < processor_count
HasPlaces size (Waits n) = n < processor_count

abbrev pub HasAllPlaces : ℕ → Condition → Type 0
HasAllPlaces size condition = All (λ alternative. All (HasPlaces size) alternative.tests.items) condition.alternatives.items
