use Rattle.std.proofs.Common.{◌≡◌, ◌++◌, codes, take}
use Rattle.std.specs.List.{flat_map}
use Rattle.pp_meaning.specs.Lines.{operand_text}
use Rattle.pp_meaning.specs.Qualifiers.{names_in}
use Rattle.pp_meaning.proofs.lines.with_commas.Given as goal

abbrev pub invariant-loop-operand : goal.invariant-loop-operand
invariant-loop-operand l = l.out.items ≡ flat_map (λ operand. codes "," ++ operand_text (names_in l.scope) operand)
    (take l.operand-index l.operands)
