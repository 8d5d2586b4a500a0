use Rattle.pp_history.proofs.Names.{◌≡◌, ◌∙◌, ◌-◌, ◌+◌, arith, drop, length, length-drop, length-set, machine_after, take-set}
use Rattle.pp_history.proofs.{Repeats.acted_machine, Repeats.machine_after_more, Repeats.set_last, Repeats.take_less}
use Rattle.pp_history.proofs.{Repeats.unmarked_more, Runs.acted}
use Rattle.pp_history.proofs.repeatable.repeat_to_mark.Goals as goal

pub perform-requires-clause-room : goal.perform-requires-clause-room
perform-requires-clause-room g c =
    omega (arith, c.requires.room, (acted_machine g.T.Reversible _ _ _ _ _ _ c.loop-left.invariant.acted).1)

pub loop-left-preserved : goal.loop-left-preserved
loop-left-preserved g c =
    let T = g.T.Reversible in
    let action = g.T.Repeatable.repeated in
    let before = c.loop-left.invariant in
    let left = c.loop-left.left in
    let heads = c.loop-left.heads in
    let acted = rw c.repeated.ensures at (acted T c.perform.ensures.next c.perform.ensures.kept) in
    let was = acted_machine T action (drop left heads) _ _ _ _ before.acted in
    let count = length c.args.heads.now - left in
    let many : length (drop left heads) ≡ count = omega (arith, length-drop left heads, before.same_length) in
    let now : c.loop-left.machine ≡ machine_after T count action c.args.machine.now = rw many at was.0 in
    let next : c.perform.new.self ≡ machine_after T (count + 1) action c.args.machine.now =
    rw (machine_after_more T count action c.args.machine.now, ← now) acted.next in
    record {
      within = omega (arith, before.within);
      same_length = length-set heads (left - 1) c.perform.new.head ∙ before.same_length;
      left_alone = take-set heads (left - 1) c.perform.new.head ∙ take_less (left - 1) left heads c.args.heads.now (omega arith)
          before.left_alone;
      acted = rw (set_last left heads c.perform.new.head (omega (arith, c.loop-left-test.true))
          (omega (arith, before.within, before.same_length)))
          (c.loop-left.machine, c.loop-left.tails, before.acted, acted);
      unmarked = λ k less. unmarked_more T g.T.Marked.marks_of c.args.marks.now now next acted
          (omega (arith, c.requires.room, was.1)) (c.may_be_marked.ensures cc) before.unmarked k
          (omega (arith, less, before.within, c.loop-left-test.true));
    }
