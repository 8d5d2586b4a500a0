-- The step of a device before other devices, and its undoing.
use Rattle.std.proofs.Common.{ℕ, ◌≡◌, ◌<◌, ◌∙◌, [], ◌∷◌, ◌++◌, ap, get_or, length, sym, subst}
use Rattle.std.proofs.lemmas.List.{get_or-set_same}
use Rattle.pp_machine.proofs.{DeviceLaws.lifted, DevicesLaws.device-performed, Parts.both-performed, Parts.led_back}
use Rattle.pp_machine.proofs.Prelude.{with_channels, DeviceModel, DeviceView, device_old_values, device_pairs, device_step_writes}
use Rattle.pp_machine.proofs.Prelude.{device_view, over_device, replace, state_number, view_of, with_channel, with_view, AreJoined}
use Rattle.pp_machine.proofs.Prelude.{AreStepped, DevicesModel, FitsOn, attached, on, ArePerformed, Machine, over, put, over-append}
use Rattle.pp_machine.proofs.Prelude.{ChannelNumbers, OnRecords}
use Rattle.pp_machine.specs.declared.channel.Channel.{Channel}

module _ {Numbers Own Record Others Records : Type 0} (d : DeviceModel Numbers Own Record)
    (o : DevicesModel Others Records) (joined : AreJoined d o) (m : Machine) (c : ℕ) where
  -- the machine with these devices and channels
  abbrev whole : Numbers → Others → ChannelNumbers → Machine
  whole n x channels = attached (on d o) m (record { channel = c; device = n; others = x }) channels

  -- ---- a machine with the devices

  device_last : (n : Numbers) (x : Others) (channels : ChannelNumbers) →
      whole n x channels ≡ d.attach (o.attach (with_channels m channels) x) c n
  device_last n x channels = sym (joined.apart (with_channels m channels) c n x)

  -- the other devices are attached to the machine with the device
  others_last : (n : Numbers) (x : Others) (channels : ChannelNumbers) → attached o (d.attach m c n) x channels ≡ whole n x channels
  others_last n x channels = ap (λ s. o.attach s x) (joined.device.attached.apart m c n channels)

  on_channel : (n : Numbers) (x : Others) (channels : ChannelNumbers) → d.channel (whole n x channels).setup ≡ c
  on_channel n x channels =
      ap (λ (s : Machine). d.channel s.setup) (device_last n x channels) ∙ joined.device.attached.got_channel _ c n

  its_channels : (n : Numbers) (x : Others) (channels : ChannelNumbers) → (whole n x channels).channels ≡ channels
  its_channels n x channels = joined.others.channels _ x ∙ joined.device.attached.channels _ c n

  its_device : (n : Numbers) (x : Others) (channels : ChannelNumbers) → d.get (whole n x channels) ≡ n
  its_device n x channels = ap d.get (device_last n x channels) ∙ joined.device.attached.got _ c n

  -- the device and the channels replaced
  replaced : (n later : Numbers) (x : Others) (channels after : ChannelNumbers) →
      replace d (with_channels (whole n x channels) after) later ≡ whole later x after
  replaced n later x channels after = cc (
    joined.others.apart (d.attach (with_channels m channels) c n) x after,
    joined.device.attached.apart (with_channels m channels) c n after,
    on_channel n x channels,
    device_last n x after,
    device_last later x after,
    joined.device.attached.again (o.attach (with_channels m after) x) c c n later,
  )

  -- what the device sees, with its channel taken out of the others
  seen : (n : Numbers) (x : Others) (channels : ChannelNumbers) (taken : Channel) → state_number taken.state
      ≡ get_or channels.states c 0 → taken.word ≡ get_or channels.registers c 0 →
      device_view n taken ≡ view_of d c (whole n x channels)
  seen n x channels taken state word =
      rw (its_device n x channels, its_channels n x channels) (λ i. record { device = n; state = state i; word = word i })

  -- the device and its channel put back
  returned : (n later : Numbers) (x : Others) (channels after : ChannelNumbers) (left : Channel) → after ≡ with_channel channels c
      (state_number left.state) left.word → with_view d (whole n x channels) c (device_view later left) ≡ whole later x after
  returned n later x channels after left put_back = rw (its_channels n x channels, ← put_back) (replaced n later x channels after)

  -- ---- a step

  module _ (n later : Numbers) (x after : Others) (channels handed last : ChannelNumbers)
      (taken left : Channel) (r : Record) (rs : Records) where
    -- the device's own step, and its undo record
    abbrev IsOwnStep : DeviceView Numbers → Type 0
    IsOwnStep s = (device_view later left ≡ over_device d s (d.writes s)) × (d.pairs r ≡ device_old_values d s (d.writes s))

    first : handed ≡ with_channel channels c (state_number left.state) left.word → IsOwnStep (view_of d c (whole n x channels)) →
        ArePerformed (device_step_writes d ∷ []) (whole n x channels) (whole later x handed) (device_pairs d c r)
    first put_back own = rw (← returned n later x channels handed left put_back)
        (device-performed d joined.device.attached (whole n x channels) c
        (device_view later left) r (on_channel n x channels) own.0 own.1)

    rest : ((s : Machine) → AreStepped o (attached o s x handed) (attached o s after last) rs) →
        AreStepped o (whole later x handed) (whole later after last) rs
    rest others = rw (← others_last later x handed, ← others_last later after last) (others (d.attach m c later))

    pub stepped : state_number taken.state ≡ get_or channels.states c 0 →
        taken.word ≡ get_or channels.registers c 0 → c < length channels.states → c < length channels.registers →
        handed ≡ with_channel channels c (state_number left.state) left.word →
        IsOwnStep (device_view n taken) → d.Fits r (device_view later left) →
        ((s : Machine) → AreStepped o (attached o s x handed) (attached o s after last) rs) →
        AreStepped (on d o) (whole n x channels) (whole later after last) (record { channel = c; own = r; others = rs })
    stepped state word states registers put_back own fits others =
        let done = rest others in
        let led = led_back o.parts (whole later x handed) (whole later after last) (o.pairs rs) done.performed in
        record {
          performed = both-performed (device_step_writes d ∷ []) o.parts (whole n x channels) (whole later x handed) (whole later
              after last) _ _ (first put_back (subst IsOwnStep (seen n x channels taken state word) own)) done.performed;
          fits = record {
            channel = sym (on_channel later after last);
            others = done.fits;
            own = subst (λ s. d.Fits r (view_of d c s)) (sym led)
                (subst (d.Fits r) (seen later x handed left (rw put_back (sym (get_or-set_same channels.states c _ 0 states)))
                (rw put_back (sym (get_or-set_same channels.registers c _ 0 registers)))) fits);
          };
        }

  -- ---- a step undone

  module _ (n : Numbers) (x before : Others) (channels handed : ChannelNumbers)
      (taken : Channel) (back : OnRecords Record Records) where
    others_undone : ((s : Machine) → attached o s before handed ≡ over (attached o s x channels) (o.pairs back.others)) →
        over (whole n x channels) (o.pairs back.others) ≡ whole n before handed
    others_undone undone = cc (others_last n before handed, undone (d.attach m c n), others_last n x channels)

    pub channel_fits : FitsOn d o back (whole n x channels) → back.channel ≡ c
    channel_fits fits = fits.channel ∙ on_channel n x channels

    pub device_fits : state_number taken.state ≡ get_or handed.states c 0 →
        taken.word ≡ get_or handed.registers c 0 → FitsOn d o back (whole n x channels) →
        ((s : Machine) → attached o s before handed ≡ over (attached o s x channels) (o.pairs back.others)) →
        d.Fits back.own (device_view n taken)
    device_fits state word fits undone =
        rw (channel_fits fits, others_undone undone, ← seen n before handed taken state word) at fits.own

    pub undone : (old : Numbers) (first : ChannelNumbers) (left : Channel) →
        state_number taken.state ≡ get_or handed.states c 0 → taken.word ≡ get_or handed.registers c 0 →
        first ≡ with_channel handed c (state_number left.state) left.word →
        device_view old left ≡ over_device d (device_view n taken) (d.pairs back.own) → back.channel ≡ c →
        ((s : Machine) → attached o s before handed ≡ over (attached o s x channels) (o.pairs back.others)) →
        whole old before first ≡ over (whole n x channels) (device_pairs d back.channel back.own ++ o.pairs back.others)
    undone old first left state word put_back own at others = cc (
      over-append put (whole n x channels) (device_pairs d back.channel back.own) (o.pairs back.others),
      others_undone others,
      lifted d joined.device.attached (whole n before handed) c (device_view old left) (d.pairs back.own)
          (rw (← seen n before handed taken state word) own),
      returned n old before handed first left put_back,
    )
