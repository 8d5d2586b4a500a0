use Rattle.std.proofs.Common.{◌≡◌, drop, fold, Some}
use Rattle.pp_meaning.specs.Expressions.{with_factor}
use Rattle.pp_meaning.proofs.expressions.with_factors.Given as goal

abbrev pub invariant-loop-factor : goal.invariant-loop-factor
invariant-loop-factor l =
    fold (with_factor l.symbols l.place) (Some l.number) (drop l.factor-index l.factors) ≡ fold (with_factor l.symbols l.place)
    (Some l.first) l.factors
