use Rattle.std.proofs.Common.{◌≡◌, drop, fold, Some}
use Rattle.pp_meaning.specs.Meaning.{with_literal}
use Rattle.pp_meaning.specs.Standing.{standing}
use Rattle.pp_meaning.proofs.statements.State.note_operands.Given as goal

abbrev pub invariant-loop-operand : goal.invariant-loop-operand
invariant-loop-operand l = fold (with_literal l.symbols l.literals) (Some (standing l.self)) (drop l.operand-index l.operands)
    ≡ fold (with_literal l.symbols l.literals) (Some (standing l.initial.self)) l.operands
