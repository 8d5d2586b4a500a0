use Rattle.std.proofs.Common.{refl}
use Rattle.pp_machine.proofs.Joined.{stepped}
use Rattle.pp_machine.proofs.devices.OnDevices.step.Goals as goal

pub returns : goal.returns
returns g c =
    let taken = c.get-channel in
    let own = c.step-own in
    let others = c.step-others in
    rw (← c.self.view_is) (record {
      steps = λ m.
          stepped g.D.Device.model g.R.Devices.model c.self.invariant.1 m c.self.inside.channel
          c.self.inside.device own.new.self c.self.inside.others others.new.self
          c.args.channels.now c.set.new.self others.new.channels taken.result own.new.channel own.result others.result
          taken.ensures.state taken.ensures.word (rw taken.ensures.states c.self.invariant.0)
          (rw taken.ensures.registers c.self.invariant.0)
          c.set.ensures (own.ensures.step, own.ensures.«old_values») own.ensures.fits others.ensures.steps;
      keeps_mask = rw others.ensures.keeps_mask refl;
    })
