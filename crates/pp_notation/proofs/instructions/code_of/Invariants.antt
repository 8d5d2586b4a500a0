use Rattle.pp_notation.specs.Instructions.{IsNoneBelow}
use Rattle.pp_notation.proofs.instructions.code_of.Given as goal

abbrev pub invariant-loop-code : goal.invariant-loop-code
invariant-loop-code l = IsNoneBelow l.name l.code
