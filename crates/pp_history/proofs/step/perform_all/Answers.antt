use Rattle.pp_history.proofs.Names.{◌≡◌, ◌∙◌, ◌+◌, ◌-◌, arith, drop, length-set, take-set}
use Rattle.pp_history.proofs.{Redone.drop_here, Redone.found_in, Redone.same_room, Repeats.set_last, Repeats.take_less}
use Rattle.pp_history.proofs.step.perform_all.Goals as goal

pub perform_next-requires-clause-room : goal.perform_next-requires-clause-room
perform_next-requires-clause-room g c = c.loop-left.invariant.room

pub perform_next-requires-clause-admitted : goal.perform_next-requires-clause-admitted
perform_next-requires-clause-admitted g c =
    let before = c.loop-left.invariant in
    let left = c.loop-left.left in
    let one : left - 1 + 1 ≡ left = omega (arith, c.loop-left-test.true) in
    let found = found_in left c.loop-left.heads c.args.heads.now c.index-heads-left.result (omega (arith, c.loop-left-test.true))
    before.within
    before.same_length before.left_alone in
    c.requires.ready (left - 1) _ found (drop left c.loop-left.heads) c.loop-left.machine c.loop-left.tails c.loop-left.undone
    (rw one before.redone)

pub loop-left-preserved : goal.loop-left-preserved
loop-left-preserved g c =
    let before = c.loop-left.invariant in
    let left = c.loop-left.left in
    let heads = c.loop-left.heads in
    let some = c.loop-left-test.true in
    let next = c.perform_next in
    let found = found_in left heads c.args.heads.now c.index-heads-left.result (omega (arith, some)) before.within
    before.same_length before.left_alone in
    record {
      within = omega (arith, before.within);
      same_length = length-set heads (left - 1) next.new.head ∙ before.same_length;
      left_alone = take-set heads (left - 1) next.new.head ∙ take_less (left - 1) left heads c.args.heads.now (omega arith)
          before.left_alone;
      room = same_room g.T.Reversible _ _ _ _ _ next.new.head before.room next.ensures.kept;
      redone = rw (
        set_last left heads next.new.head (omega (arith, some)) (omega (arith, before.within, before.same_length)),
        drop_here left c.args.heads.now _ (omega (arith, some)) found,
      ) (c.loop-left.machine, c.loop-left.tails, c.loop-left.undone, before.redone, next.ensures.kept, next.ensures.undone);
    }
