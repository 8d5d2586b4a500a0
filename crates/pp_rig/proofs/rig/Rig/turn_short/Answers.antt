use Rattle.pp_rig.proofs.Names.{Step, machine_of}
use Rattle.pp_rig.proofs.Stepped.{IsMachine-short, slot-stepped, turned}
use Rattle.pp_rig.proofs.rig.Rig.turn_short.Goals as goal

pub invariant_of-self : goal.invariant_of-self
invariant_of-self c =
    let read = rw (← c.processor.view_is) at c.index_mut-processor.ensures.value in
    let step = c.step_short-is_done.ensures in
    IsMachine-short (machine_of c.self.inside) _ _ (Step c.step_short-is_done.new.back) c.self.invariant read
    c.step_short-is_done.result step.step step.unchanged

pub returns-then-is_done-clause-turns : goal.returns-then-is_done-clause-turns
returns-then-is_done-clause-turns c = λ done.
    let m = machine_of c.self.inside in
    let read = rw (← c.processor.view_is) at c.index_mut-processor.ensures.value in
    let rest = c.finish_turn.ensures in
    let step = slot-stepped m _ _ _ c.self.invariant read (c.step_short-is_done.ensures.step done) in
    rw (← c.self.view_is) (turned m _ _ _ step
    rest.performed rest.fits rest.slot rest.setup rest.machine)
