use Rattle.std.proofs.{Common.add-one, Common.drop-cons, lemmas.List.drop_all}
use Rattle.pp_console.proofs.Prelude.{err_from_is_err_and}
use Rattle.pp_console.proofs.Gathered.{Gathers-after, Gathers-longer, Gathers-nothing}
use Rattle.pp_console.proofs.paper.gather_characters.Goals as goal

pub loop-symbol-preserved : goal.loop-symbol-preserved
loop-symbol-preserved g c = λ later last result left. c.loop-symbol.invariant later last result
    (rw (drop-cons c.args.symbols.now c.loop-symbol.symbol-index 0 c.loop-symbol-test.true)
    (Gathers-after result (rw c.character.ensures at c.in_ok-gather.ensures) (rw (add-one c.loop-symbol.symbol-index) at left)))

pub returns-in_err-gather : goal.returns-in_err-gather
returns-in_err-gather g c = rw (err_from_is_err_and c.from_residual.result c.from_residual.ensures.1).1
    (c.loop-symbol.invariant _ _ _ (rw (drop-cons c.args.symbols.now c.loop-symbol.symbol-index 0 c.loop-symbol-test.true)
    (Gathers-longer _ (rw c.character.ensures at c.in_err-gather.ensures))))

pub returns : goal.returns
returns g c = c.loop-symbol.invariant _ _ _ (rw (drop_all _ c.args.symbols.now c.loop-symbol-test.false) Gathers-nothing)
