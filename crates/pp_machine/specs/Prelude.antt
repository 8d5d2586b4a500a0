-- The names of a machine that most specifications and proofs cite, passed on from one place. Declares nothing.
pub use Rattle.pp_machine.specs.declared.place.Place.{Place}
pub use Rattle.pp_machine.specs.declared.place.Place.TheVariants.{Cell, RegA, RegP, RegQ, Phase, ChannelMode, ChannelWord, Clock}
pub use Rattle.pp_machine.specs.declared.place.Place.TheVariants.{Central, FrameWord, Slot, WatchEntry}
pub use Rattle.pp_machine.specs.Machine.{Machine, Setup, ProcessorNumbers, over, old_values, number, put, processor, no_processor}
pub use Rattle.pp_machine.specs.Machine.{with_processor, has_function, is_in_state, Has, HasAll, IsShaped, lookup, same_place}
pub use Rattle.pp_machine.specs.Writes.{Writes, AllPlaces, over_by, old_values_by, lookup_by, renamed, places, first_of_two, written}
pub use Rattle.pp_machine.specs.WriteList.{list_room, write_list, write_list-append}
unfoldable pub use Rattle.pp_machine.specs.CentralSizes.{words_of}
pub use Rattle.pp_machine.specs.ChannelNumbers.{ChannelNumbers, state_number, with_channel}
pub use Rattle.pp_machine.specs.WriteLaws.{over-append, over-renamed, AllPlaces-append, AllPlaces-renamed, places-append}
pub use Rattle.pp_machine.specs.WriteLaws.{places-old_values, old_values-append, old_values-renamed, lookup-append, length-renamed}
pub use Rattle.pp_machine.specs.WriteLaws.{good-over, looked-up, undone-by-old-values, store-by, eqb-false_sym, Commute, IsStore}
