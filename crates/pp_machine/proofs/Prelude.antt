-- The names of a machine and its devices that most proofs cite, passed on from one place. Declares nothing.
pub use Rattle.pp_machine.specs.Prelude.{Place, Cell, RegA, RegP, RegQ, Phase, ChannelMode, ChannelWord, Clock, Central, FrameWord}
pub use Rattle.pp_machine.specs.Prelude.{Slot, WatchEntry, Machine, ProcessorNumbers, over, old_values, number, put, processor}
pub use Rattle.pp_machine.specs.Prelude.{no_processor, Has, HasAll, IsShaped, lookup, same_place, Writes, AllPlaces, renamed}
pub use Rattle.pp_machine.specs.Prelude.{places, first_of_two, ChannelNumbers, state_number, with_channel, over-append}
pub use Rattle.pp_machine.specs.Prelude.{over-renamed, AllPlaces-append, AllPlaces-renamed, places-append, places-old_values}
pub use Rattle.pp_machine.specs.Prelude.{old_values-append, old_values-renamed, lookup-append, length-renamed, undone-by-old-values}
pub use Rattle.pp_machine.specs.Prelude.{store-by, eqb-false_sym, Commute, IsStore}
pub use Rattle.pp_machine.specs.NumberLaws.{number-over, setup-over}
pub use Rattle.pp_machine.specs.Inner.Attached.{IsAttached, IsDevice, of_device, with_channels}
pub use Rattle.pp_machine.specs.Inner.Device.{DeviceModel, DevicePlace, DeviceView, AtOwn, AtState, AtWord, device_old_values}
pub use Rattle.pp_machine.specs.Inner.Device.{device_pairs, device_place, device_step_writes, device_view, number_at, over_device}
pub use Rattle.pp_machine.specs.Inner.Device.{place_at, put_at, replace, view_of, view_on, with_view}
pub use Rattle.pp_machine.specs.Inner.Devices.{AreDevices, AreJoined, AreOnChannels, AreStepped, DevicesModel, FitsOn, attached}
pub use Rattle.pp_machine.specs.Inner.Devices.{no_devices, on}
pub use Rattle.pp_machine.specs.Inner.PartWrites.{AreIdle, ArePerformed, EachPart, parts_old_values, parts_writes}
pub use Rattle.pp_machine.specs.Parts.{Part, after_parts}
pub use Rattle.pp_machine.specs.declared.devices.OnRecords.{OnRecords}
