-- A device as the machine sees it: numbers of its own, and the state and register of its channel.
use Rattle.std.specs.Prelude.{ℕ, ◌≡◌, slice_index}
use Rattle.pp_machine.specs.Prelude.{ChannelNumbers, state_number, with_channel, Machine, Setup, Writes, over_by, old_values_by}
use Rattle.pp_machine.specs.Prelude.{renamed, Place, ChannelMode, ChannelWord}
use Rattle.pp_machine.specs.declared.channel.Channel.{Channel}

-- what a step of a device reads and writes
pub record DeviceView (Numbers : Type 0) : Type 0 where
  pub device : Numbers
  pub state : ℕ
  pub word : ℕ

-- the places of these numbers
pub data DevicePlace (Own : Type 0) : Type 0 where
  AtOwn : Own → DevicePlace Own
  AtState : DevicePlace Own
  AtWord : DevicePlace Own

-- What makes a device.
pub record DeviceModel (Numbers Own Record : Type 0) : Type 1 where
  -- the numbers at its own places, and the machine's names for these
  pub number : Numbers → Own → ℕ
  pub put : Numbers → Own → ℕ → Numbers
  pub name : Own → Place
  -- one step as a write list
  pub writes : DeviceView Numbers → Writes (DevicePlace Own)
  -- the old values that an undo record has, how many at most, and when a record can be undone
  pub pairs : Record → Writes (DevicePlace Own)
  pub most : ℕ
  pub Fits : Record → DeviceView Numbers → Type 0
  -- the device in a machine and its channel, and a machine with it replaced, on this channel
  pub get : Machine → Numbers
  pub channel : Setup → ℕ
  pub attach : Machine → ℕ → Numbers → Machine

abbrev pub device_view : {Numbers : Type 0} → Numbers → Channel → DeviceView Numbers
device_view d c = record { device = d; state = state_number c.state; word = c.word }

-- the same, for a device on channel c
abbrev pub view_on : {Numbers : Type 0} → ℕ → Numbers → ChannelNumbers → DeviceView Numbers
view_on c d channels = record { device = d; state = slice_index channels.states c; word = slice_index channels.registers c }

-- the number at a place, from the numbers at the device's own places
abbrev pub number_at : {Numbers Own : Type 0} → (Numbers → Own → ℕ) → DeviceView Numbers → DevicePlace Own → ℕ
number_at own s (AtOwn x) = own s.device x
number_at own s AtState = s.state
number_at own s AtWord = s.word

abbrev pub put_at : {Numbers Own : Type 0} → (Numbers → Own → ℕ → Numbers) →
    DeviceView Numbers → DevicePlace Own → ℕ → DeviceView Numbers
put_at own s (AtOwn x) v = record s { device = own s.device x v }
put_at own s AtState v = record s { state = v }
put_at own s AtWord v = record s { word = v }

-- the corresponding place of the machine, for a device on channel c
abbrev pub place_at : {Own : Type 0} → (Own → Place) → ℕ → DevicePlace Own → Place
place_at name c (AtOwn x) = name x
place_at name c AtState = ChannelMode c
place_at name c AtWord = ChannelWord c

module _ {Numbers Own Record : Type 0} (d : DeviceModel Numbers Own Record) where
  abbrev pub over_device : DeviceView Numbers → Writes (DevicePlace Own) → DeviceView Numbers
  over_device = over_by (put_at d.put)

  abbrev pub device_old_values : DeviceView Numbers → Writes (DevicePlace Own) → Writes (DevicePlace Own)
  device_old_values = old_values_by (number_at d.number)

  abbrev pub device_place : ℕ → DevicePlace Own → Place
  device_place = place_at d.name

  -- ---- in the machine

  -- the view of the device on channel c
  abbrev pub view_of : ℕ → Machine → DeviceView Numbers
  view_of c m = view_on c (d.get m) m.channels

  -- the machine with the device replaced, on the channel that it has
  abbrev pub replace : Machine → Numbers → Machine
  replace m n = d.attach m (d.channel m.setup) n

  -- the machine with a view put back
  abbrev pub with_view : Machine → ℕ → DeviceView Numbers → Machine
  with_view m c s = replace (record m { channels = with_channel m.channels c s.state s.word }) s.device

  -- one step as a write list of the machine
  abbrev pub device_step_writes : Machine → Writes Place
  device_step_writes m = renamed (device_place (d.channel m.setup)) (d.writes (view_of (d.channel m.setup) m))

  -- the undo record of a device on channel c as places of the machine with their old numbers
  abbrev pub device_pairs : ℕ → Record → Writes Place
  device_pairs c r = renamed (device_place c) (d.pairs r)

-- A step by a write list leads from one view to another: the record has the old values, and can be undone.
pub record IsStep {Numbers Own Record : Type 0} (d : DeviceModel Numbers Own Record)
    (w : Writes (DevicePlace Own)) (old new : DeviceView Numbers) (r : Record) : Type 0 where
  pub step : new ≡ over_device d old w
  pub old_values : d.pairs r ≡ device_old_values d old w
  pub fits : d.Fits r new
