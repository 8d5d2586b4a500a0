use Rattle.pp_encoder.proofs.assembled.perform_unit.Goals as goal

pub returns : goal.returns
returns c = rw (← c.deref.ensures.value, ← c.deref-2.ensures.value, ← c.deref-3.ensures.value) c.perform_all.ensures
