use Rattle.std.proofs.Common.{take}
use Rattle.std.specs.List.{AllZip}
use Rattle.pp_assembler.specs.Meaning.{AreOfSystem}
use Rattle.pp_assembler.proofs.units.system_texts.Given as goal

abbrev pub invariant-loop-text : goal.invariant-loop-text
invariant-loop-text l = AllZip (AreOfSystem l.fn.lines) l.texts.items (take l.text-index l.pass.scope.output.systems.items)
