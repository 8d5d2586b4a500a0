use Rattle.pp_rig.proofs.Names.{arith, machine_of, device_parts}
use Rattle.pp_machine.proofs.Parts.{none-performed}
use Rattle.pp_rig.proofs.rig.Rig.step_devices.Goals as goal

pub returns-else-are_called : goal.returns-else-are_called
returns-else-are_called c =
    let m = machine_of c.self.inside in
    let none = none-performed device_parts m (c.are_called.ensures c.if-are_called.false m) in
    rw (← c.self.view_is) (grind (arith, none))
