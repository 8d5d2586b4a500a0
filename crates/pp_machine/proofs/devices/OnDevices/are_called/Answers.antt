use Rattle.pp_machine.proofs.DevicesLaws.{on-laws}
use Rattle.pp_machine.proofs.devices.OnDevices.are_called.Goals as goal

pub returns : goal.returns
returns g c off m =
    let quiet = c.is_one_active.ensures off in
    rw (← c.self.view_is) ((on-laws g.D.Device.model g.R.Devices.model c.self.invariant.1).idle m _ _ (rw c.self.invariant.2 at quiet))
