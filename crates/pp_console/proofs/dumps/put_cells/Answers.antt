use Rattle.std.proofs.Common.{◌/◌}
use Rattle.pp_console.proofs.{Prelude.err_from_is_err_and, Each.row_at, Each.each-first, Each.each-none}
use Rattle.pp_console.proofs.Gathered.{Gathers-after, Gathers-longer, Gathers-nothing, Puts-failed, Puts-piece}
use Rattle.pp_console.proofs.dumps.put_cells.Goals as goal

pub loop-row-preserved : goal.loop-row-preserved
loop-row-preserved g c = λ later last result left. c.loop-row.invariant later last result
    (rw (each-first (row_at c.args.machine.now c.args.pp c.args.first c.args.last) c.loop-row.row _ c.loop-row-test.true)
    (Gathers-after result (rw (c.as_slice.ensures.value, c.row_line-line.ensures) at c.in_ok-gather.ensures) left))

pub returns-in_err-gather : goal.returns-in_err-gather
returns-in_err-gather g c = rw (err_from_is_err_and c.from_residual.result c.from_residual.ensures.1).1
    (Puts-failed {new = c.gather.new.piece.items} (c.loop-row.invariant _ _ _
    (rw (each-first (row_at c.args.machine.now c.args.pp c.args.first c.args.last) c.loop-row.row _ c.loop-row-test.true)
    (Gathers-longer _ (rw (c.as_slice.ensures.value, c.row_line-line.ensures) at c.in_err-gather.ensures)))))

pub returns : goal.returns
returns g c =
    let none = each-none (row_at c.args.machine.now c.args.pp c.args.first c.args.last) c.loop-row.row
    (c.saturating_sub-count.result / 8) c.loop-row-test.false in
    Puts-piece c.put_all.result (c.loop-row.invariant _ _ _ (rw none Gathers-nothing))
    (rw c.as_slice-2.ensures.value at c.put_all.ensures)
