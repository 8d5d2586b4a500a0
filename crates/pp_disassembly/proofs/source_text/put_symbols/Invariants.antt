use Rattle.std.proofs.Common.{◌≡◌, ◌++◌, take}
use Rattle.pp_disassembly.specs.SourceText.{symbols}
use Rattle.pp_disassembly.proofs.source_text.put_symbols.Given as goal

abbrev pub invariant-loop-word : goal.invariant-loop-word
invariant-loop-word l = l.out.items ≡ l.initial.out.items ++ symbols (take l.word-index l.words)
