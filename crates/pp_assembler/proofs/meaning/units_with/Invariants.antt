use Rattle.std.proofs.Common.{take}
use Rattle.std.specs.List.{AllZip}
use Rattle.pp_assembler.specs.Meaning.{IsProgramOf, unit_programs}
use Rattle.pp_assembler.proofs.meaning.units_with.Given as goal

abbrev pub invariant-loop-image : goal.invariant-loop-image
invariant-loop-image l = AllZip IsProgramOf (unit_programs l.units.items) (take l.image-index l.images)
