use Rattle.pp_rig.proofs.Names.{◌∙◌, arith, refl, sym, over-parts, setup-over, IsMachine-over, machine_of, device_parts}
use Rattle.pp_machine.specs.Inner.PartWrites.{parts_writes}
use Rattle.pp_rig.proofs.rig.Rig.step_called_devices.Goals as goal

pub invariant_of-self : goal.invariant_of-self
invariant_of-self c = let m = machine_of c.self.inside in
    IsMachine-over m _ (parts_writes device_parts m) c.self.invariant
    ((c.step-back.ensures.steps m).performed.step ∙ sym (over-parts device_parts m)) refl refl

pub returns : goal.returns
returns c = let stepped = c.step-back.ensures.steps (machine_of c.self.inside) in
    rw (← c.self.view_is) (record {
      performed = stepped.performed;
      fits = λ called. stepped.fits;
      kept = grind (arith, setup-over, stepped.performed.step);
    })
