use Rattle.std.proofs.Common.{◌≡◌, ◌++◌, codes, take}
use Rattle.std.specs.List.{flat_map}
use Rattle.pp_arith.specs.Octal.{octal_text}
use Rattle.pp_disassembly.proofs.source_text.put_numbers.Given as goal

abbrev pub invariant-loop-word : goal.invariant-loop-word
invariant-loop-word l =
    l.out.items ≡ l.initial.out.items ++ flat_map (λ other. codes "," ++ octal_text other 1) (take l.word-index l.others)
