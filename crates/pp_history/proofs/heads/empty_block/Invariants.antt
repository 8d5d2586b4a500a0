use Rattle.std.proofs.Common.{◌≡◌, length}
use Rattle.pp_history.proofs.heads.empty_block.Given as goal

abbrev pub invariant-loop-slot : goal.invariant-loop-slot
invariant-loop-slot g l = length l.block.items ≡ l._slot
