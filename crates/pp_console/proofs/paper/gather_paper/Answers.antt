use Rattle.std.proofs.{Common.arith, lemmas.Bool.Decides.nat_tests, lemmas.List.nil_from_length}
use Rattle.pp_console.proofs.Prelude.{err_from_is_err_and}
use Rattle.pp_console.proofs.Gathered.{Gathers-after, Gathers-longer, Gathers-nothing}
use Rattle.pp_console.proofs.paper.gather_paper.Goals as goal

pub lines-preserved : goal.lines-preserved
lines-preserved g c = λ later last result left. c.lines.invariant later last result
    (rw c.in-Some.ensures.cut (Gathers-after result c.in_ok-gather_line.ensures left))

pub returns-in_err-gather_line : goal.returns-in_err-gather_line
returns-in_err-gather_line g c = rw (err_from_is_err_and c.from_residual.result c.from_residual.ensures.1).1
    (c.lines.invariant _ _ _ (rw c.in-Some.ensures.cut (Gathers-longer _ c.in_err-gather_line.ensures)))

pub returns-then-is_empty : goal.returns-then-is_empty
returns-then-is_empty g c = c.lines.invariant _ _ _
    (rw (c.in_default.ensures.cut, nil_from_length c.lines.rest.now (grind (arith, nat_tests))) Gathers-nothing)
