use Rattle.pp_encoder.proofs.assembled.perform_all.Goals as goal

pub returns : goal.returns
returns c = rw c.in_ok-state.ensures c.in_ok-follow_all.ensures
