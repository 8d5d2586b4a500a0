use Rattle.std.proofs.Common.{◌≡◌, take}
use Rattle.pp_disassembly.specs.SourceText.{source_text}
use Rattle.pp_disassembly.proofs.source_text.write_source.Given as goal

abbrev pub invariant-loop-statement : goal.invariant-loop-statement
invariant-loop-statement l = l.text.items ≡ source_text (take l.statement-index l.statements)
