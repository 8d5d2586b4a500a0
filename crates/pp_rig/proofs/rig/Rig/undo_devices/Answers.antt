use Rattle.pp_rig.proofs.Names.{arith, refl, all_model, setup-over, IsMachine-over, machine_of}
use Rattle.pp_rig.proofs.rig.Rig.undo_devices.Goals as goal

pub undo-requires : goal.undo-requires
undo-requires c = record { fits = (machine_of c.self.inside, rw (← c.self.view_is) at c.requires) }

pub invariant_of-self : goal.invariant_of-self
invariant_of-self c = IsMachine-over _ _ (all_model.pairs c.args.back.now) c.self.invariant
    (c.undo.ensures.undoes (machine_of c.self.inside)) refl refl

pub returns : goal.returns
returns c = grind (arith, setup-over, c.undo.ensures.undoes (machine_of c.self.inside))
