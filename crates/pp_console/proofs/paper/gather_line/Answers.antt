use Rattle.std.proofs.Common.{◌∷◌, [], append_assoc}
use Rattle.pp_console.proofs.{Prelude.err_from_is_err_and, Gathered.Gathers-after, Gathered.Gathers-longer}
use Rattle.pp_console.proofs.paper.gather_line.Goals as goal

pub returns-in_err-gather : goal.returns-in_err-gather
returns-in_err-gather g c = rw ((err_from_is_err_and c.from_residual.result c.from_residual.ensures.1).1, append_assoc)
    (Gathers-longer _ c.in_err-gather.ensures)

pub returns-in_err-gather_characters : goal.returns-in_err-gather_characters
returns-in_err-gather_characters g c =
    rw (err_from_is_err_and c.from_residual-in_err-gather_characters.result c.from_residual-in_err-gather_characters.ensures.1).1
    (Gathers-longer (10 ∷ []) (Gathers-after _ c.in_ok-gather.ensures c.in_err-gather_characters.ensures))

pub returns : goal.returns
returns g c = Gathers-after _ (Gathers-after _ c.in_ok-gather.ensures c.in_ok-gather_characters.ensures) c.gather-2.ensures
