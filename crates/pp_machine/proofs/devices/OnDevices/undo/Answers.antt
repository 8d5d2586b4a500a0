use Rattle.std.proofs.Common.{refl}
use Rattle.pp_machine.proofs.Joined.{channel_fits, device_fits, undone}
use Rattle.pp_machine.proofs.devices.OnDevices.undo.Goals as goal

pub undo-requires-2 : goal.undo-requires-2
undo-requires-2 g c =
    let taken = c.get-channel in
    let fits = rw (← c.self.view_is) at c.requires.fits in
    record {
      fits = device_fits g.D.Device.model g.R.Devices.model c.self.invariant.1 fits.0 c.self.inside.channel c.self.inside.device
          c.self.inside.others c.undo.new.self c.args.channels.now c.undo.new.channels taken.result c.args.back.now
          taken.ensures.state taken.ensures.word fits.1 c.undo.ensures.undoes;
    }

pub returns : goal.returns
returns g c =
    let taken = c.get-channel in
    let fits = rw (← c.self.view_is) at c.requires.fits in
    let at = channel_fits g.D.Device.model g.R.Devices.model c.self.invariant.1 fits.0 c.self.inside.channel c.self.inside.device
    c.self.inside.others c.undo.new.self c.args.channels.now c.undo.new.channels taken.result c.args.back.now fits.1 in
    rw (← c.self.view_is) (record {
      undoes = λ m.
          undone g.D.Device.model g.R.Devices.model c.self.invariant.1 m c.self.inside.channel c.self.inside.device
          c.self.inside.others c.undo.new.self c.args.channels.now c.undo.new.channels taken.result c.args.back.now
          c.undo-2.new.self c.set.new.self c.undo-2.new.channel taken.ensures.state
          taken.ensures.word c.set.ensures c.undo-2.ensures.undoes at c.undo.ensures.undoes;
      keeps_mask = rw c.undo.ensures.keeps_mask refl;
    })
