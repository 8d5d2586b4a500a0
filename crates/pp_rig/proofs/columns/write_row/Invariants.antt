use Rattle.std.proofs.Common.{◌≡◌, ◌+◌, ◌++◌, map, take}
use Rattle.pp_machine.specs.Prelude.{number}
use Rattle.pp_rig.proofs.columns.write_row.Given as goal

abbrev pub invariant-loop-k : goal.invariant-loop-k
invariant-loop-k l = take (l.used + l.k) l.into ≡ take l.used l.initial.into ++ map (number l.machine) (take l.k l.places)
