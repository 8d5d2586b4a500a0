use Rattle.std.proofs.Common.{◌≡◌, drop, fold, Some, pos}
use Rattle.pp_meaning.specs.Expressions.{with_term}
use Rattle.pp_meaning.proofs.expressions.sum_of_terms.Given as goal

abbrev pub invariant-loop-term : goal.invariant-loop-term
invariant-loop-term l =
    fold (with_term l.symbols l.place) (Some l.total) (drop l.term-index l.terms) ≡ fold (with_term l.symbols l.place)
    (Some (pos 0)) l.terms
