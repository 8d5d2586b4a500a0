use Rattle.pp_history.proofs.Names.{arith, refl}
use Rattle.pp_history.proofs.{Runs.kept_is, Runs.run_ends, Undone.part_back, Undone.part_fits}
use Rattle.pp_history.proofs.session.Session.back_part.Goals as goal

pub undo_all-requires-clause-fit : goal.undo_all-requires-clause-fit
undo_all-requires-clause-fit g c =
    let T = g.T.Reversible in
    let slot = c.slot_behind-first.ensures in
    let enough = (rw (← c.self.view_is) at c.requires).1 in
    part_fits T c.self.invariant c.slot_behind-first.new.self c.slot_behind-first.result slot.is slot.within slot.same _
    c.min-count.result refl (omega (arith, slot.within, c.min-count.ensures))
    (omega (arith, enough, c.min-count.ensures, kept_is T _ _ c.self.invariant))
    c.as_slice.result.now c.as_slice.ensures.value

pub undo_all-requires-clause-room : goal.undo_all-requires-clause-room
undo_all-requires-clause-room g c =
    omega (arith, c.self.invariant.heads.some_room, c.self.invariant.joined.ahead.room)

pub invariant_of-self : goal.invariant_of-self
invariant_of-self g c =
    let T = g.T.Reversible in
    let slot = c.slot_behind-first.ensures in
    let enough = (rw (← c.self.view_is) at c.requires).1 in
    run_ends T c.self.invariant (part_back T c.self.invariant c.slot_behind-first.new.self c.slot_behind-first.result slot.is
    slot.within slot.same _ c.min-count.result refl (omega (arith, slot.within, c.min-count.ensures))
    (omega (arith, enough, c.min-count.ensures, kept_is T _ _ c.self.invariant)) c.as_slice.result.now c.as_slice.ensures.value
    c.undo_all.new.machine c.undo_all.new.tails c.undo_all.new.undone c.undo_all.ensures)

pub returns-clause-moves : goal.returns-clause-moves
returns-clause-moves g c =
    let T = g.T.Reversible in
    let slot = c.slot_behind-first.ensures in
    let enough = (rw (← c.self.view_is) at c.requires).1 in
    rw (← c.self.view_is) (part_back T c.self.invariant c.slot_behind-first.new.self c.slot_behind-first.result slot.is
    slot.within slot.same _ c.min-count.result refl (omega (arith, slot.within, c.min-count.ensures))
    (omega (arith, enough, c.min-count.ensures, kept_is T _ _ c.self.invariant)) c.as_slice.result.now c.as_slice.ensures.value
    c.undo_all.new.machine c.undo_all.new.tails c.undo_all.new.undone c.undo_all.ensures).span.moves
