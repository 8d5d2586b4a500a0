use Rattle.std.proofs.Common.{◌≡◌, drop, fold, Some, []}
use Rattle.pp_meaning.specs.Meaning.{with_constant}
use Rattle.pp_meaning.proofs.words.words_of_constants.Given as goal

abbrev pub invariant-loop-operand : goal.invariant-loop-operand
invariant-loop-operand l = fold (with_constant l.symbols l.place) (Some l.words.items) (drop l.operand-index l.operands) ≡ fold
    (with_constant l.symbols l.place) (Some []) l.operands
