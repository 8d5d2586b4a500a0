-- What holds of the devices of a machine, from the laws of each.
use Rattle.std.proofs.Common.{ℕ, false, ◌+◌, ◌≡◌, ◌≤◌, ◌∙◌, [], ◌∷◌, ◌++◌, None, length, ap, arith, refl, subst, sym}
use Rattle.std.proofs.lemmas.List.{length-append}
use Rattle.pp_machine.proofs.ChannelMasks.{has-other, has-own}
use Rattle.pp_machine.proofs.DeviceLaws.{lifted, lifted-old_values, not_at, watches-kept}
use Rattle.pp_machine.proofs.{Parts.one-performed, Prelude.length-renamed, Prelude.lookup-append, Prelude.OnRecords, Prelude.Place}
use Rattle.pp_machine.proofs.Prelude.{IsAttached, IsDevice, of_device, DeviceModel, DeviceView, device_old_values, device_pairs}
use Rattle.pp_machine.proofs.Prelude.{device_place, device_step_writes, over_device, view_of, with_view, AreDevices, AreOnChannels}
use Rattle.pp_machine.proofs.Prelude.{AreIdle, AreJoined, ChannelNumbers, attached, with_channels}
use Rattle.pp_machine.proofs.Prelude.{DevicesModel, FitsOn, no_devices, on, setup-over, ArePerformed, Machine, over}
use Rattle.pp_machine.proofs.Prelude.{put, Writes, first_of_two, renamed, Has, HasAll, lookup, same_place, AllPlaces-append}
use Rattle.pp_machine.specs.Inner.{ChannelMasks.AreInactive, ChannelMasks.mask_with, Devices.OnNumbers}

-- a list of other places does not have a place
not_among : {P : Type 0} (name : P → Place) (ws : Writes P) (p : Place) →
    ((x : P) → same_place (name x) p ≡ false) → lookup (renamed name ws) p ≡ None
not_among name [] p other = refl
not_among name (w ∷ ws) p other = rw (other w.0) (not_among name ws p other)

-- a list of writes without a watch entry
pub watches-over : {P : Type 0} (name : P → Place) → ((m : Machine) (p : P) (v : ℕ) → (put m (name p) v).watches ≡ m.watches) →
    (m : Machine) (w : Writes P) → (over m (renamed name w)).watches ≡ m.watches
watches-over name keeps m [] = refl
watches-over name keeps m (pair ∷ w) = keeps (over m (renamed name w)) pair.0 pair.1 ∙ watches-over name keeps m w

-- ---- one device

module _ {Numbers Own Record : Type 0} (d : DeviceModel Numbers Own Record) (laws : IsAttached d) where
  keeps : (m : Machine) → (over m (device_step_writes d m)).watches ≡ m.watches
  keeps m = watches-over (device_place d (d.channel m.setup))
      (watches-kept d laws (d.channel m.setup)) m (d.writes (view_of d (d.channel m.setup) m))

  not_by_one : (c : ℕ) (r : Record) (p : Place) → of_device p ≡ false → lookup (device_pairs d c r) p ≡ None
  not_by_one c r p e = not_among (device_place d c) (d.pairs r) p (not_at d laws c p e)

  -- a step on the device's own numbers and its channel is a step of the machine
  pub device-performed : (m : Machine) (c : ℕ) (s : DeviceView Numbers) (r : Record) → d.channel m.setup ≡ c →
      s ≡ over_device d (view_of d c m) (d.writes (view_of d c m)) →
      d.pairs r ≡ device_old_values d (view_of d c m) (d.writes (view_of d c m)) →
      ArePerformed (device_step_writes d ∷ []) m (with_view d m c s) (device_pairs d c r)
  device-performed m c s r on_channel step named =
      let w = d.writes (view_of d c m) in
      one-performed (device_step_writes d) m _ _
      (cc (lifted d laws m c s w step, on_channel)) (cc (named, lifted-old_values d laws m c w, on_channel))

-- ---- no device, and one device more

pub no-laws : AreDevices no_devices
no-laws = record {
  channels = λ m n. refl;
  apart = λ m n channels. refl;
  idle = λ m n channels quiet. tt;
  watches = λ s. tt;
  writes_has = λ size s ok. tt;
  pairs_has = λ size r s ok fits. tt;
  at_most = λ r. omega arith;
  not_by = λ r p e. refl;
}

module _ {Numbers Own Record Others Records : Type 0} (d : DeviceModel Numbers Own Record)
    (o : DevicesModel Others Records) (joined : AreJoined d o) where
  device : IsDevice d
  device = joined.device

  others : AreDevices o
  others = joined.others

  on-pairs_has : (size : ℕ) (r : OnRecords Record Records) (s : Machine) → AreOnChannels (d.channel s.setup ∷ o.channels s.setup) →
      FitsOn d o r s → HasAll size (device_pairs d r.channel r.own ++ o.pairs r.others)
  on-pairs_has size r s ok f =
      AllPlaces-append (Has size) _ _ (device.pairs_has size r.channel r.own _ (rw f.channel ok.0) f.own)
      (others.pairs_has size r.others s ok.1 f.others)

  on-at_most : (r : OnRecords Record Records) → length (device_pairs d r.channel r.own ++ o.pairs r.others) ≤ d.most + o.most
  on-at_most r = let here = length-renamed (device_place d r.channel) (d.pairs r.own) in
      simp length-append (omega (arith, device.at_most r.own, others.at_most r.others))

  on-idle : (m : Machine) (n : OnNumbers Numbers Others) (channels : ChannelNumbers) →
      AreInactive (mask_with (o.mask n.others) n.channel) channels.states → AreIdle (on d o).parts (attached (on d o) m n channels)
  on-idle m n channels quiet =
      let s = attached (on d o) m n channels in
      let bare = with_channels m channels in
      let on_channel : d.channel s.setup ≡ n.channel =
      ap (λ (t : Machine). d.channel t.setup) (sym (joined.apart bare n.channel n.device n.others))
      ∙ device.attached.got_channel _ n.channel n.device in
      let its_channels : s.channels ≡ channels =
      others.channels _ n.others ∙ device.attached.channels bare n.channel n.device in
      let own = quiet n.channel (has-own (o.mask n.others) n.channel) in
      let after = others.idle (d.attach m n.channel n.device) n.others channels
      (λ c on. quiet c (has-other (o.mask n.others) n.channel c on)) in (
        ap (renamed (device_place d (d.channel s.setup)))
            (device.idle (view_of d (d.channel s.setup) s) (rw (on_channel, its_channels) own)),
        subst (λ t. AreIdle o.parts (o.attach t n.others)) (device.attached.apart m n.channel n.device channels) after,
      )

  pub on-laws : AreDevices (on d o)
  on-laws = record {
    channels = λ m n. others.channels (d.attach m n.channel n.device) n.others ∙ device.attached.channels m n.channel n.device;
    apart = λ m n channels. others.apart (d.attach m n.channel n.device) n.others channels
        ∙ ap (λ s. o.attach s n.others) (device.attached.apart m n.channel n.device channels);
    idle = on-idle;
    watches = λ s. (keeps d device.attached s, others.watches (over s (device_step_writes d s)));
    writes_has = λ size s ok. (
      device.writes_has size (d.channel s.setup) (view_of d (d.channel s.setup) s) ok.0,
      others.writes_has size (over s (device_step_writes d s)) (rw (setup-over s (device_step_writes d s)) ok.1),
    );
    pairs_has = on-pairs_has;
    at_most = on-at_most;
    not_by = λ r p e. lookup-append same_place (device_pairs d r.channel r.own) (o.pairs r.others) p
        ∙ rw (not_by_one d device.attached r.channel r.own p e) (others.not_by r.others p e);
  }

-- the first pair for a place in the records
pub lookup_on : {Numbers Own Record Others Records : Type 0} (d : DeviceModel Numbers Own Record)
    (o : DevicesModel Others Records) (r : OnRecords Record Records) (p : Place) →
    lookup (device_pairs d r.channel r.own ++ o.pairs r.others) p
    ≡ first_of_two (lookup (device_pairs d r.channel r.own) p) (lookup (o.pairs r.others) p)
lookup_on d o r p = lookup-append same_place (device_pairs d r.channel r.own) (o.pairs r.others) p
