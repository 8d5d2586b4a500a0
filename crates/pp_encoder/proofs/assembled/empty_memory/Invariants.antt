use Rattle.std.proofs.Common.{◌≡◌, replicate, None}
use Rattle.pp_encoder.proofs.assembled.empty_memory.Given as goal

abbrev pub invariant-loop-count : goal.invariant-loop-count
invariant-loop-count l = l.memory.items ≡ replicate l._count None
