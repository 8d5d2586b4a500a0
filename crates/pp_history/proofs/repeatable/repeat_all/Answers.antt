use Rattle.pp_history.proofs.Names.{◌∙◌, ◌-◌, arith, length-set}
use Rattle.pp_history.proofs.{Repeats.acted_machine, Repeats.set_last, Runs.acted}
use Rattle.pp_history.proofs.repeatable.repeat_all.Goals as goal

pub perform-requires-clause-room : goal.perform-requires-clause-room
perform-requires-clause-room g c =
    omega (arith, c.requires, (acted_machine g.T.Reversible _ _ _ _ _ _ c.loop-left.invariant.acted).1)

pub loop-left-preserved : goal.loop-left-preserved
loop-left-preserved g c =
    let before = c.loop-left.invariant in
    let acted = rw c.repeated.ensures at (acted g.T.Reversible c.perform.ensures.next c.perform.ensures.kept) in
    let long = length-set c.loop-left.heads (c.loop-left.left - 1) c.perform.new.head in
    record {
      within = omega (arith, before.within, long);
      same_length = long ∙ before.same_length;
      acted = rw (set_last c.loop-left.left c.loop-left.heads c.perform.new.head (omega (arith, c.loop-left-test.true))
          before.within)
          (c.loop-left.machine, c.loop-left.tails, before.acted, acted);
    }
