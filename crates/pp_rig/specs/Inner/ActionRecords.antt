-- What an action writes and overwrites, and what its undo record leads back to.
use Rattle.std.specs.Prelude.{◌≡◌, MatchOption, None, ℕ, ◌+◌, ◌≤◌, List, [], ◌∷◌, All, length, map, refl}
use Rattle.std.proofs.Common.{arith}
use Rattle.pp_machine.specs.Prelude.{Machine, over, old_values, number, Writes, write_list, Has, HasAll, IsShaped, lookup}
use Rattle.pp_machine.specs.NumberLaws.{number-over, setup-over}
use Rattle.pp_machine.specs.{Ranges.watch_count, declared.place.Place.Place, declared.place.Place.TheVariants.WatchEntry}
use Rattle.pp_actions.specs.Deadstart.{deadstart_places, deadstart_place_count}
use Rattle.pp_actions.specs.{Admitting.first_fault, Settings.AreSettings, Watches.AreWatches, Watches.watched_at}
use Rattle.pp_actions.specs.{WatchCodes.first_zero, WatchCodes.watch_code, RecordLists.with_entries, RecordLists.with_new_numbers}
use Rattle.pp_actions.specs.{WriteLists.writes_from, declared.action.Action.Action, declared.watched.Watched.Watched}
use Rattle.pp_rig.specs.Inner.TurnRecords.{turn_writes, turn_old_values, turn_pairs, most_turn_places, FitsTurn}
use Rattle.pp_rig.specs.{Action.operator_writes, declared.rig.RigRecord.RigRecord}
use Rattle.pp_actions.specs.declared.action.Action.TheVariants as action
use Rattle.pp_rig.specs.declared.rig.RigRecord.TheVariants as kept

-- the write list of an action
abbrev pub writes : Machine → Action → Writes Place
writes s action.Turn = turn_writes s
writes s action = operator_writes s action

-- the old values of an action, those of a turn part by part: of two numbers for one place the first is the old one
abbrev pub old_values_of : Machine → Action → Writes Place
old_values_of s action.Turn = turn_old_values s
old_values_of s action = old_values s (writes s action)

-- how many places an action may overwrite
abbrev pub most_places : Action → ℕ
most_places action.Turn = most_turn_places
most_places action.Deadstart = deadstart_place_count
most_places action = watch_count

-- the places of a record, with the old numbers
abbrev pub record_pairs : RigRecord → Writes Place
record_pairs (kept.Turn r) = turn_pairs r
record_pairs (kept.Settings old) = write_list old.items
record_pairs (kept.Watched i) = (WatchEntry i, 0) ∷ []
record_pairs (kept.Unwatched i places) = writes_from WatchEntry i (map watch_code places.items)
record_pairs (kept.Restarted numbers) = with_new_numbers deadstart_places numbers.items

abbrev pub before : RigRecord → Machine → Machine
before r s = over s (record_pairs r)

-- the places from entry i on fit behind those before it, after one was removed
pub record FitsUnwatched (i : ℕ) (places : List Watched) (s : Machine) : Type 0 where
  pub count : first_zero s.watches + 1 ≡ i + length places
  pub within : i ≤ first_zero s.watches
  pub at_most : i + length places ≤ watch_count
  pub read_back : All (λ watched. watched_at (watch_code watched) ≡ watched) places
  pub back : AreWatches s.setup.central_words (with_entries s.watches i (map watch_code places))

abbrev pub FitsPart : RigRecord → Machine → Type 0
FitsPart (kept.Turn r) s = FitsTurn r s
FitsPart (kept.Settings old) s = AreSettings s.setup.central_words (write_list old.items)
FitsPart (kept.Watched i) s = first_zero s.watches ≡ i + 1
FitsPart (kept.Unwatched i places) s = FitsUnwatched i places.items s
FitsPart (kept.Restarted numbers) s = AreSettings s.setup.central_words (with_new_numbers deadstart_places numbers.items)

-- the record can be put back into the machine, which has each place in the record
pub record FitsRecord (r : RigRecord) (s : Machine) : Type 0 where
  pub part : FitsPart r s
  pub shaped : IsShaped s.setup.central_words s
  pub places : HasAll s.setup.central_words (record_pairs r)

-- with a record put back, a place has its old number if the record has that place, and else its present number
pub record_restores : (r : RigRecord) (s : Machine) (p : Place) → FitsRecord r s →
    MatchOption (lookup (record_pairs r) p) (number (before r s) p ≡ number s p) (λ was. number (before r s) p ≡ was)
record_restores r s p f = grind (arith, number-over s.setup.central_words s (record_pairs r) p f.shaped f.places)

-- a machine has the same places with a record put back
pub keeps_place : (r : RigRecord) (s : Machine) (p : Place) → Has s.setup.central_words p → Has (before r s).setup.central_words p
keeps_place r s p h = rw (setup-over s (record_pairs r)) h

-- every machine admits a turn
pub admits_turn : (s : Machine) → first_fault s action.Turn ≡ None
unfolding first_fault
admits_turn s = refl
