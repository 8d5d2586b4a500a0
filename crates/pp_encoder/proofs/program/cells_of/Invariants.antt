use Rattle.std.proofs.Common.{◌≡◌, ◌++◌, drop}
use Rattle.pp_notation.proofs.Programs.{IsBelow}
use Rattle.pp_meaning.specs.Cells.{addressed, filled}
use Rattle.pp_encoder.proofs.program.cells_of.Given as goal

abbrev pub invariant-loop-address : goal.invariant-loop-address
invariant-loop-address l = record {
  below : IsBelow l.cells.items l.address;
  words : addressed l.cells.items ++ filled l.address (drop l.address l.memory) ≡ filled 0 l.memory;
}
