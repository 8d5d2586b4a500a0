-- The numbers of a well-formed machine are in range.
use Rattle.std.proofs.Common.{◌≡◌, ℕ, ◌<◌, ◌≤◌, IsTrue, slice_index, arith}
use Rattle.std.proofs.lemmas.{List.get_or_past, Bool.Decides.nat_tests}
use Rattle.pp_machine.specs.Phase.{is_phase}
use Rattle.pp_machine.specs.Machine.{Machine, Has, number, processor, no_processor}
use Rattle.pp_machine.specs.Ranges.{IsInRange}
use Rattle.pp_machine.specs.declared.place.Place.{Place}
use Rattle.pp_machine.specs.declared.place.Place.TheVariants as place
use Rattle.pp_rig.specs.WellFormed.{IsWellFormed, IsProcessor}

own : (s : Machine) (n : ℕ) → IsWellFormed s → n < 10 → IsProcessor (processor s n)
own s n w h = w.processors n no_processor (omega (arith, h, w.sizes.processors))

phase_small : (n : ℕ) → IsTrue (is_phase n) → n < 65536
phase_small n h = grind (arith, nat_tests, h)

-- a number past the channels names none
pub no_state : (s : Machine) (c : ℕ) → IsWellFormed s → 12 ≤ c → slice_index s.channels.states c ≡ 0
no_state s c w h = get_or_past s.channels.states c 0 (omega (arith, h, w.sizes.states))

pub in_range : (s : Machine) (p : Place) → IsWellFormed s → Has s.setup.central_words p → IsInRange p (number s p)
in_range s (place.Cell n a) w h = (own s n w h.0).cells a 0 (omega (arith, h.1, w.sizes.memories n h.0))
in_range s (place.RegA n) w h = (own s n w h).a
in_range s (place.RegP n) w h = (own s n w h).p
in_range s (place.RegQ n) w h = (own s n w h).q
in_range s (place.Phase n) w h = (phase_small (processor s n).phase (own s n w h).phase, (own s n w h).phase)
in_range s (place.ChannelMode c) w h = omega (arith, w.channels.states_in c 0 (omega (arith, h, w.sizes.states)))
in_range s (place.ChannelWord c) w h = w.channels.registers_in c 0 (omega (arith, h, w.sizes.registers))
in_range s (place.Central a) w h = w.central a 0 (omega (arith, h, w.sizes.central))
in_range s place.Slot w h = w.slot
in_range s _ w h = tt

pub paper_in : (s : Machine) → IsWellFormed s → s.printer.length ≤ 65536
paper_in s w = w.devices.1.within
