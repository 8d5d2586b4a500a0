use Rattle.std.specs.List.{AllByRecursion}
use Rattle.pp_assembler.specs.Meaning.{IsPerformed}
use Rattle.pp_assembler.proofs.units.statements_of.Given as goal

abbrev pub invariant-loop-at : goal.invariant-loop-at
invariant-loop-at l = AllByRecursion (IsPerformed l.fn.lines l.fn.rows) l.statements.items
