use Rattle.std.proofs.Common.{refl}
use Rattle.pp_encoder.proofs.assembled.state_with.Goals as goal

pub returns : goal.returns
returns c =
    rw (c.new.ensures.items, c.new-2.ensures.items, c.in_ok-counters.ensures, c.in_ok-memory.ensures) refl
