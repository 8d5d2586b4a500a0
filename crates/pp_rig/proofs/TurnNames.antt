-- Which parts of a turn's record may have a place.
use Rattle.pp_rig.proofs.Names.{arith, ℕ, ◌≡◌, Option, Some, None, of_device, renamed, lookup, Place, devices_old_values}
use Rattle.pp_rig.proofs.Names.{end_old_values, rest_pairs, turn_pairs, TurnRecord, TurnRest, pp_pairs, pp_place}
use Rattle.std.proofs.Common.{if◌then◌else◌}
use Rattle.pp_machine.specs.{Prelude.first_of_two, Prelude.same_place, WriteLaws.lookup-append}
use Rattle.std.proofs.Common.{false, refl}
use Rattle.pp_machine.specs.{declared.place.Place.TheVariants.Clock, declared.place.Place.TheVariants.Slot}
use Rattle.pp_rig.proofs.Devices.{not_by_devices}

-- ---- the rest of a turn's record, by the kind of the place

-- the old values of the turn's end: the clock and the slot
abbrev by_end : TurnRest → Place → Option ℕ
by_end r p = lookup (end_old_values r) p

abbrev by_devices : TurnRest → Place → Option ℕ
by_devices r p = lookup (devices_old_values r) p

abbrev pub by_kind : TurnRest → Place → Option ℕ
by_kind r Clock = by_end r Clock
by_kind r Slot = Some r.slot
by_kind r p = if of_device p then by_devices r p else None

first_alone : (o : Option ℕ) → first_of_two o None ≡ o
first_alone o = grind arith

lookup_parts : (r : TurnRest) (p : Place) → lookup (rest_pairs r) p ≡ first_of_two (by_devices r p) (by_end r p)
unfolding rest_pairs
lookup_parts r p = simp lookup-append

-- a place other than the clock and the slot
devices_alone : (r : TurnRest) (p : Place) → same_place Clock p ≡ false → same_place Slot p ≡ false →
    lookup (rest_pairs r) p ≡ (if of_device p then by_devices r p else None)
devices_alone r p clock slot =
    let none : by_end r p ≡ None = grind arith in
    grind (arith, lookup_parts r p, none, first_alone (by_devices r p), not_by_devices r p)

pub lookup_by_kind : (r : TurnRest) (p : Place) → lookup (rest_pairs r) p ≡ by_kind r p
lookup_by_kind r Clock = grind (arith, lookup_parts r Clock, not_by_devices r Clock)
lookup_by_kind r Slot = grind (arith, lookup_parts r Slot, not_by_devices r Slot)
lookup_by_kind r p = devices_alone r p refl refl

-- the first pair for a place in a turn's record
pub lookup_turn : (r : TurnRecord) (p : Place) → lookup (turn_pairs r) p
    ≡ first_of_two (lookup (renamed (pp_place r.rest.slot) (pp_pairs r.pp)) p) (lookup (rest_pairs r.rest) p)
unfolding turn_pairs
lookup_turn r p = simp lookup-append

-- a place that the rest of the turn's record does not have
pub lookup_processor : (r : TurnRecord) (p : Place) → by_kind r.rest p ≡ None →
    lookup (turn_pairs r) p ≡ lookup (renamed (pp_place r.rest.slot) (pp_pairs r.pp)) p
lookup_processor r p none = grind (arith, lookup_turn r p, lookup_by_kind r.rest p)
