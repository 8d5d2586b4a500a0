-- What holds of a device in a machine.
use Rattle.std.specs.Prelude.{ℕ, Bool, true, false, [], ◌≡◌, ◌<◌, ◌≤◌, length}
use Rattle.pp_machine.specs.Prelude.{ChannelNumbers, state_number, Machine, number, put, HasAll, renamed, Place, Cell, RegA, RegP}
use Rattle.pp_machine.specs.Prelude.{RegQ, Phase, Clock, Central, FrameWord, Slot, WatchEntry}
use Rattle.pp_machine.specs.declared.channel.ChannelState.TheVariants.{Inactive}
use Rattle.pp_machine.specs.Inner.Device.{DeviceModel, DeviceView, device_pairs, device_place}

-- whether a device may have the place: it is a device's own, or its channel's
abbrev pub of_device : Place → Bool
of_device (Cell n a) = false
of_device (RegA n) = false
of_device (RegP n) = false
of_device (RegQ n) = false
of_device (Phase n) = false
of_device Clock = false
of_device (Central a) = false
of_device (FrameWord i) = false
of_device Slot = false
of_device (WatchEntry i) = false
of_device _ = true

abbrev pub with_channels : Machine → ChannelNumbers → Machine
with_channels m channels = record m { channels = channels }

-- The machine has the device's numbers at the device's own places, and nothing else is there.
pub record IsAttached {Numbers Own Record : Type 0} (d : DeviceModel Numbers Own Record) : Type 0 where
  pub number_named : (m : Machine) (x : Own) → d.number (d.get m) x ≡ number m (d.name x)
  pub put_named : (m : Machine) (c : ℕ) (n : Numbers) (x : Own) (v : ℕ) →
      d.attach m c (d.put n x v) ≡ put (d.attach m c n) (d.name x) v
  pub same : (m : Machine) → d.attach m (d.channel m.setup) (d.get m) ≡ m
  pub got : (m : Machine) (c : ℕ) (n : Numbers) → d.get (d.attach m c n) ≡ n
  pub got_channel : (m : Machine) (c : ℕ) (n : Numbers) → d.channel (d.attach m c n).setup ≡ c
  pub again : (m : Machine) (c k : ℕ) (n x : Numbers) → d.attach (d.attach m c n) k x ≡ d.attach m k x
  pub channels : (m : Machine) (c : ℕ) (n : Numbers) → (d.attach m c n).channels ≡ m.channels
  pub apart : (m : Machine) (c : ℕ) (n : Numbers) (channels : ChannelNumbers) →
      with_channels (d.attach m c n) channels ≡ d.attach (with_channels m channels) c n
  pub watches : (m : Machine) (c : ℕ) (n : Numbers) → (d.attach m c n).watches ≡ m.watches
  pub devices : (x : Own) → of_device (d.name x) ≡ true

-- A device in a machine: on an inactive channel it does nothing, and it writes only places of the machine.
pub record IsDevice {Numbers Own Record : Type 0} (d : DeviceModel Numbers Own Record) : Type 0 where
  pub attached : IsAttached d
  pub idle : (s : DeviceView Numbers) → s.state ≡ state_number Inactive → d.writes s ≡ []
  pub writes_has : (size c : ℕ) (s : DeviceView Numbers) → c < 12 → HasAll size (renamed (device_place d c) (d.writes s))
  pub pairs_has : (size c : ℕ) (r : Record) (s : DeviceView Numbers) → c < 12 → d.Fits r s → HasAll size (device_pairs d c r)
  pub at_most : (r : Record) → length (d.pairs r) ≤ d.most
