use Rattle.pp_rig.proofs.Names.{◌∙◌, pp_pairs, Step, machine_of, whole_turn}
use Rattle.pp_rig.proofs.Stepped.{IsMachine-over, slot-over, turn-undone}
use Rattle.pp_rig.proofs.rig.Rig.undo_turn_short.Goals as goal

pub invariant_of-self : goal.invariant_of-self
invariant_of-self c = let read = rw (← c.processor.view_is) at c.index_mut-processor.ensures.value in
    IsMachine-over (machine_of c.self.inside) c.args.back.now.rest.slot _ c.self.invariant c.requires.rest.slot read _
    (pp_pairs (Step c.args.back.now.pp)) (c.undo_short.ensures c.self.inside.frame)

pub returns : goal.returns
returns c =
    let m = machine_of c.self.inside in
    let back = c.args.back.now in
    let read = rw (← c.processor.view_is) at c.index_mut-processor.ensures.value in
    turn-undone (whole_turn back) c.args.self.now m _ (c.self.view_is ∙ c.undo_rest.ensures.undoes)
    (slot-over m back.rest.slot _ c.self.invariant c.requires.rest.slot read _ (pp_pairs (Step back.pp))
    (c.undo_short.ensures c.self.inside.frame))
