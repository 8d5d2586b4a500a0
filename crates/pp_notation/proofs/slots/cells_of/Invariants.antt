use Rattle.pp_notation.proofs.Programs.{IsBelow}
use Rattle.pp_notation.proofs.slots.cells_of.Given as goal

abbrev pub invariant-loop-address : goal.invariant-loop-address
invariant-loop-address l = IsBelow l.cells.items l.address
