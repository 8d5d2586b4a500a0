use Rattle.std.specs.List.{AllByRecursion}
use Rattle.pp_assembler.specs.Meaning.{ArePerformed}
use Rattle.pp_assembler.proofs.units.units_of.Given as goal

abbrev pub invariant-loop-layout : goal.invariant-loop-layout
invariant-loop-layout l = AllByRecursion (ArePerformed l.fn.lines l.fn.rows) l.units.items
