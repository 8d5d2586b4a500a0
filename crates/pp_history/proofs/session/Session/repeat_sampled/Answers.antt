use Rattle.pp_history.proofs.Names.{◌+◌, arith}
use Rattle.pp_history.proofs.{Recordings.repeat_alone, Runs.run_ends}
use Rattle.pp_history.proofs.session.Session.repeat_sampled.Goals as goal

pub invariant_of-self : goal.invariant_of-self
invariant_of-self g c =
    let slot = c.slot_before-end.ensures in
    let all = c.sample_all in
    run_ends g.T.Reversible c.self.invariant (repeat_alone g.T.Reversible c.self.invariant g.met.T.Repeatable.is_admitted
    c.slot_before-end.new.self
    (c.slot_before-end.result + 1) slot.is (omega (arith, slot.within)) slot.same c.min-count.result
    (omega (arith, c.min-count.ensures, c.requires.some))
    (omega (arith, c.min-count.ensures)) c.as_mut_slice.result.now c.as_mut_slice.ensures.value all.new.heads
    all.ensures.same_length all.new.machine all.new.tails
    all.ensures.acted c.min-self-inside.result c.min-self-inside.ensures).run

pub returns-clause-machine : goal.returns-clause-machine
returns-clause-machine g c =
    let slot = c.slot_before-end.ensures in
    let all = c.sample_all in
    rw (← c.self.view_is) (repeat_alone g.T.Reversible c.self.invariant g.met.T.Repeatable.is_admitted c.slot_before-end.new.self
    (c.slot_before-end.result + 1) slot.is (omega (arith, slot.within)) slot.same c.min-count.result
    (omega (arith, c.min-count.ensures, c.requires.some))
    (omega (arith, c.min-count.ensures)) c.as_mut_slice.result.now c.as_mut_slice.ensures.value all.new.heads
    all.ensures.same_length all.new.machine all.new.tails
    all.ensures.acted c.min-self-inside.result c.min-self-inside.ensures).machine_is

pub returns-clause-at : goal.returns-clause-at
returns-clause-at g c =
    let slot = c.slot_before-end.ensures in
    let all = c.sample_all in
    rw (← c.self.view_is) (repeat_alone g.T.Reversible c.self.invariant g.met.T.Repeatable.is_admitted c.slot_before-end.new.self
    (c.slot_before-end.result + 1) slot.is (omega (arith, slot.within)) slot.same c.min-count.result
    (omega (arith, c.min-count.ensures, c.requires.some))
    (omega (arith, c.min-count.ensures)) c.as_mut_slice.result.now c.as_mut_slice.ensures.value all.new.heads
    all.ensures.same_length all.new.machine all.new.tails
    all.ensures.acted c.min-self-inside.result c.min-self-inside.ensures).run.span.moves
