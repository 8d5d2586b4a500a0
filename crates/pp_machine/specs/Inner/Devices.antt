-- The devices of a machine, one after another, each on a channel of its own.
use Rattle.std.specs.Prelude.{ℕ, ◌≡◌, ◌≢◌, ◌+◌, ◌≤◌, ◌<◌, false, List, [], ◌∷◌, ◌++◌, length, None}
use Rattle.std.specs.List.{AllByRecursion}
use Rattle.pp_machine.specs.Inner.Attached.{IsDevice, of_device, with_channels}
use Rattle.pp_machine.specs.Prelude.{ChannelNumbers, Machine, Setup, over, lookup, HasAll, Writes, Place}
use Rattle.pp_machine.specs.Inner.Device.{DeviceModel, device_pairs, device_step_writes, view_of}
use Rattle.pp_machine.specs.Inner.ChannelMasks.{AreInactive, mask_with}
use Rattle.pp_machine.specs.Inner.PartWrites.{AreIdle, ArePerformed, EachPart}
use Rattle.pp_machine.specs.{Parts.Part, declared.devices.OnRecords.OnRecords, declared.devices.NoDevices.NoDevices}

-- a device on its channel, and the devices after it
pub record OnNumbers (Device Others : Type 0) : Type 0 where
  pub channel : ℕ
  pub device : Device
  pub others : Others

-- What makes the devices of a machine.
pub record DevicesModel (Numbers Records : Type 0) : Type 1 where
  -- the channels that they are on, and a machine with the devices replaced
  pub channels : Setup → List ℕ
  pub attach : Machine → Numbers → Machine
  -- these channels as a mask
  pub mask : Numbers → ℕ
  -- the steps of the devices
  pub parts : List Part
  -- the old values that their undo records have, how many at most, and when the records can be undone
  pub pairs : Records → Writes Place
  pub most : ℕ
  pub Fits : Records → Machine → Type 0

-- Each number is that of a data channel. [P30]
abbrev pub AreOnChannels : List ℕ → Type 0
AreOnChannels = AllByRecursion (λ c. c < 12)

-- No two numbers are the same. [P30]
abbrev pub AreDistinct : List ℕ → Type 0
AreDistinct [] = Unit {0}
AreDistinct (c ∷ cs) = AllByRecursion (λ k. c ≢ k) cs × AreDistinct cs

-- no device
abbrev pub no_devices : DevicesModel NoDevices NoDevices
no_devices = record {
  channels = λ s. [];
  attach = λ m n. m;
  mask = λ n. 0;
  parts = [];
  pairs = λ r. [];
  most = 0;
  Fits = λ r s. Unit {0};
}

module _ {Numbers Own Record Others Records : Type 0} (d : DeviceModel Numbers Own Record) (o : DevicesModel Others Records) where
  -- each device's record fits the machine that it is put back into, the last one first
  pub record FitsOn (r : OnRecords Record Records) (s : Machine) : Type 0 where
    pub channel : r.channel ≡ d.channel s.setup
    pub others : o.Fits r.others s
    pub own : d.Fits r.own (view_of d r.channel (over s (o.pairs r.others)))

  -- a device, and then others
  abbrev pub on : DevicesModel (OnNumbers Numbers Others) (OnRecords Record Records)
  on = record {
    channels = λ s. d.channel s ∷ o.channels s;
    attach = λ m n. o.attach (d.attach m n.channel n.device) n.others;
    mask = λ n. mask_with (o.mask n.others) n.channel;
    parts = device_step_writes d ∷ o.parts;
    pairs = λ r. device_pairs d r.channel r.own ++ o.pairs r.others;
    most = d.most + o.most;
    Fits = FitsOn;
  }

module _ {Numbers Records : Type 0} (o : DevicesModel Numbers Records) where
  -- a machine with these devices and channels
  abbrev pub attached : Machine → Numbers → ChannelNumbers → Machine
  attached m n channels = o.attach (record m { channels = channels }) n

  -- the steps of the devices, and their undo records
  pub record AreStepped (old new : Machine) (r : Records) : Type 0 where
    pub performed : ArePerformed o.parts old new (o.pairs r)
    pub fits : o.Fits r new

  -- What holds of the devices in a machine.
  pub record AreDevices : Type 0 where
    pub channels : (m : Machine) (n : Numbers) → (o.attach m n).channels ≡ m.channels
    pub apart : (m : Machine) (n : Numbers) (channels : ChannelNumbers) →
        with_channels (o.attach m n) channels ≡ o.attach (with_channels m channels) n
    pub idle : (m : Machine) (n : Numbers) (channels : ChannelNumbers) →
        AreInactive (o.mask n) channels.states → AreIdle o.parts (attached m n channels)
    pub watches : (s : Machine) → EachPart (λ part m. (over m (part m)).watches ≡ m.watches) o.parts s
    pub writes_has : (size : ℕ) (s : Machine) → AreOnChannels (o.channels s.setup) →
        EachPart (λ part m. HasAll size (part m)) o.parts s
    pub pairs_has : (size : ℕ) (r : Records) (s : Machine) →
        AreOnChannels (o.channels s.setup) → o.Fits r s → HasAll size (o.pairs r)
    pub at_most : (r : Records) → length (o.pairs r) ≤ o.most
    pub not_by : (r : Records) (p : Place) → of_device p ≡ false → lookup (o.pairs r) p ≡ None

-- A device can be put before these devices: the laws hold, and it is at other places of the machine than they are.
pub record AreJoined {Numbers Own Record Others Records : Type 0}
    (d : DeviceModel Numbers Own Record) (o : DevicesModel Others Records) : Type 0 where
  pub device : IsDevice d
  pub others : AreDevices o
  pub apart : (m : Machine) (c : ℕ) (n : Numbers) (x : Others) → d.attach (o.attach m x) c n ≡ o.attach (d.attach m c n) x
