use Rattle.pp_history.proofs.Names.{◌+◌, arith}
use Rattle.pp_history.proofs.{Redone.part_forward, Redone.part_ready, Runs.ahead_is, Runs.run_ends}
use Rattle.pp_history.proofs.session.Session.forward_part.Goals as goal

pub perform_all-requires-clause-ready : goal.perform_all-requires-clause-ready
perform_all-requires-clause-ready g c =
    let T = g.T.Reversible in
    let slot = c.slot_before-end.ensures in
    let enough = (rw (← c.self.view_is) at c.requires).1 in
    part_ready T c.self.invariant c.slot_before-end.new.self (c.slot_before-end.result + 1) slot.is (omega (arith, slot.within))
    slot.same
    c.min-count.result (omega (arith, c.min-count.ensures))
    (omega (arith, enough, c.min-count.ensures, ahead_is T _ _ c.self.invariant))
    c.as_mut_slice.result.now c.as_mut_slice.ensures.value

pub perform_all-requires-clause-room : goal.perform_all-requires-clause-room
perform_all-requires-clause-room g c =
    omega (arith, c.self.invariant.heads.some_room, c.self.invariant.joined.kept.room)

pub invariant_of-self : goal.invariant_of-self
invariant_of-self g c =
    let T = g.T.Reversible in
    let slot = c.slot_before-end.ensures in
    let enough = (rw (← c.self.view_is) at c.requires).1 in
    let all = c.perform_all in
    run_ends T c.self.invariant (part_forward T c.self.invariant c.slot_before-end.new.self (c.slot_before-end.result + 1) slot.is
    (omega (arith, slot.within))
    slot.same c.min-count.result (omega (arith, c.min-count.ensures))
    (omega (arith, enough, c.min-count.ensures, ahead_is T _ _ c.self.invariant))
    c.as_mut_slice.result.now c.as_mut_slice.ensures.value all.new.heads all.ensures.same_length all.new.machine all.new.tails
    all.new.undone all.ensures.redone)

pub returns-clause-moves : goal.returns-clause-moves
returns-clause-moves g c =
    let T = g.T.Reversible in
    let slot = c.slot_before-end.ensures in
    let enough = (rw (← c.self.view_is) at c.requires).1 in
    let all = c.perform_all in
    rw (← c.self.view_is) (part_forward T c.self.invariant c.slot_before-end.new.self (c.slot_before-end.result + 1) slot.is
    (omega (arith, slot.within))
    slot.same c.min-count.result (omega (arith, c.min-count.ensures))
    (omega (arith, enough, c.min-count.ensures, ahead_is T _ _ c.self.invariant))
    c.as_mut_slice.result.now c.as_mut_slice.ensures.value all.new.heads all.ensures.same_length all.new.machine all.new.tails
    all.new.undone all.ensures.redone).span.moves
