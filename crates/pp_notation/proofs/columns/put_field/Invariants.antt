use Rattle.std.proofs.Common.{◌≡◌, ◌++◌, replicate}
use Rattle.pp_notation.proofs.columns.put_field.Given as goal

abbrev pub invariant-blanks : goal.invariant-blanks
invariant-blanks l = l.out.items ≡ l.initial.out.items ++ replicate l.counter 32
