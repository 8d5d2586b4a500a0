use Rattle.std.proofs.Common.{sym, subst, arith}
use Rattle.pp_loading.specs.Inner.Rows.{LoadsWhole}
use Rattle.pp_loading.proofs.LineEffects.{loads-all, loads-none, loads-row, rest-within}
use Rattle.pp_loading.proofs.lines.put_program.Goals as goal

pub loop-done-init : goal.loop-done-init
loop-done-init c = record {
  within = omega arith;
  loads = subst (λ text. LoadsWhole text _) (sym c.requires.empty) loads-none;
}

pub loop-done-preserved : goal.loop-done-preserved
loop-done-preserved c = record {
  within = rest-within _ _ _ c.loop-done.invariant.within c.row_len-count.ensures.within;
  loads = loads-row c.loop-done.text.items c.put_cells.new.text.items c.args.pp c.args.cells.now c.loop-done.done
      c.row_len-count.result _ c.loop-done.invariant.loads c.requires.pp c.loop-done.invariant.within
      c.row_len-count.ensures.row c.row_len-count.ensures.some c.row_len-count.ensures.within c.row_len-count.ensures.at_most
      c.in_ok-put_cells.ensures;
}

pub returns : goal.returns
returns c = loads-all c.loop-done.text.items c.args.pp c.args.cells.now c.loop-done.done c.loop-done-test.false
    c.loop-done.invariant.loads
