use Rattle.std.proofs.Common.{◌≡◌, ◌+◌, ◌++◌, take}
use Rattle.pp_machine.specs.Prelude.{write_list}
use Rattle.pp_machine.specs.Olds.{numbered}
use Rattle.pp_machine.proofs.olds.put_olds.Given as goal

abbrev pub invariant-loop-k : goal.invariant-loop-k
invariant-loop-k l = take (l.used + l.k) l.olds ≡ take l.used l.initial.olds ++ numbered (write_list (take l.k l.pairs))
