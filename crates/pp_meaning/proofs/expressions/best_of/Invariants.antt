use Rattle.std.proofs.Common.{◌≡◌, drop, fold, Some}
use Rattle.pp_meaning.specs.Expressions.{with_choice}
use Rattle.pp_meaning.proofs.expressions.best_of.Given as goal

abbrev pub invariant-loop-operand : goal.invariant-loop-operand
invariant-loop-operand l = fold (with_choice l.symbols l.place l.is_greatest) (Some l.best) (drop l.operand-index l.others) ≡ fold
    (with_choice l.symbols l.place l.is_greatest) (Some l.first) l.others
