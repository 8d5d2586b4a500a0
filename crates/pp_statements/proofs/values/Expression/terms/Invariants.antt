use Rattle.std.proofs.Common.{◌≡◌, ◌-◌, length}
use Rattle.pp_statements.specs.Values.{more_terms, repeated, view}
use Rattle.pp_statements.proofs.values.Expression.terms.Given as goal

abbrev pub invariant-loop-turn : goal.invariant-loop-turn
invariant-loop-turn l =
    repeated (length l.text - l._turn) (more_terms (view l.self)) (l.total.number, l.rest) ≡ repeated (length l.text)
    (more_terms (view l.self)) (l.fn.first.number, l.text)
