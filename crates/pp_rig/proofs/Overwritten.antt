-- The old values of an action lead back, and are at the places that it writes.
use Rattle.pp_rig.proofs.Names.{arith, ◌≡◌, ◌≤◌, length, refl, sym, length-append, Machine, over, number, places}
use Rattle.pp_rig.proofs.Names.{places-old_values, pp_pairs, pp_place, writes, old_values_of, turn, turn_parts, rest_pairs}
use Rattle.pp_rig.proofs.Names.{turn_pairs, turn_writes, Action, Turn, TurnRecord, over-parts}
use Rattle.std.proofs.{Common.IsPermutation, lemmas.List.Sorted.IsPermutation-refl}
use Rattle.pp_machine.proofs.{MachineStore.taken_back, Parts.back-after, Parts.same_places}
use Rattle.pp_machine.specs.WriteLaws.{length-renamed}
use Rattle.pp_step.specs.Step.{most_step_places}
use Rattle.pp_rig.specs.{Action.next, Inner.TurnRecords.most_turn_places, Inner.TurnRecords.turn_old_values}
use Rattle.pp_rig.proofs.Devices.{devices-at_most}

-- an action leads to the machine after its write list
pub next_by_writes : (m : Machine) (action : Action) → next m action ≡ over m (writes m action)
unfolding turn turn_writes
next_by_writes m Turn = sym (over-parts turn_parts m)
next_by_writes m action = refl

-- the old values lead back to the machine before the action
pub action_taken_back : (m : Machine) (action : Action) → over (next m action) (old_values_of m action) ≡ m
unfolding turn turn_old_values
action_taken_back m Turn = back-after turn_parts m
action_taken_back m action = taken_back m (writes m action)

-- the old values are at the places of the write list
pub places_old_values_of : (m : Machine) (action : Action) →
    IsPermutation (places (old_values_of m action)) (places (writes m action))
unfolding turn_writes turn_old_values
places_old_values_of m Turn = same_places turn_parts m
places_old_values_of m action = rw (places-old_values number m (writes m action)) (IsPermutation-refl (places (writes m action)))

-- ---- how many places a turn's record has

pub at_most-turn : (r : TurnRecord) → length (pp_pairs r.pp) ≤ most_step_places → length (turn_pairs r) ≤ most_turn_places
unfolding turn_pairs rest_pairs
at_most-turn r at_most =
    simp length-append (grind (arith, length-renamed (pp_place r.rest.slot) (pp_pairs r.pp), devices-at_most r.rest))
