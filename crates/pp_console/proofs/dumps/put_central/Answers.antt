use Rattle.std.proofs.Common.{◌+◌}
use Rattle.pp_console.specs.Dumps.{central_line}
use Rattle.pp_console.proofs.{Prelude.err_from_is_err_and, Each.each-first, Each.each-none}
use Rattle.pp_console.proofs.Gathered.{Gathers-after, Gathers-longer, Gathers-nothing, Puts-failed, Puts-piece}
use Rattle.pp_console.proofs.dumps.put_central.Goals as goal

pub loop-a-preserved : goal.loop-a-preserved
loop-a-preserved g c = λ later last result left. c.loop-a.invariant later last result
    (rw (each-first (central_line c.args.machine.now) c.loop-a.a _ c.loop-a-test.true)
    (Gathers-after result (rw (c.as_slice.ensures.value, c.word_line.ensures) at c.in_ok-gather.ensures) left))

pub returns-in_err-gather : goal.returns-in_err-gather
returns-in_err-gather g c = rw (err_from_is_err_and c.from_residual.result c.from_residual.ensures.1).1
    (Puts-failed {new = c.gather.new.piece.items} (c.loop-a.invariant _ _ _
    (rw (each-first (central_line c.args.machine.now) c.loop-a.a _ c.loop-a-test.true)
    (Gathers-longer _ (rw (c.as_slice.ensures.value, c.word_line.ensures) at c.in_err-gather.ensures)))))

pub returns : goal.returns
returns g c = Puts-piece c.put_all.result (c.loop-a.invariant _ _ _
    (rw (each-none (central_line c.args.machine.now) c.loop-a.a (c.args.last + 1) c.loop-a-test.false) Gathers-nothing))
    (rw c.as_slice-2.ensures.value at c.put_all.ensures)
