use Rattle.pp_history.proofs.Names.{◌≡◌, ◌+◌, ◌-◌, ◌∙◌, ◌++◌, ap, arith, drop, length}
use Rattle.pp_history.proofs.Names.{length-drop, refl, min, sym, take, with_items}
use Rattle.pp_history.proofs.Repeats.{part_long, repeat_none, repeat_part, unmarked_both, written_block}
use Rattle.pp_history.proofs.Runs.{run_ends}
use Rattle.pp_history.proofs.session.Session.repeat.Goals as goal

pub loop-count-init : goal.loop-count-init
loop-count-init g c =
    let log = c.self.inside.log in
    let kept : min (log.kept + 0) log.heads.capacity ≡ log.kept = omega (arith, c.self.invariant.full) in
    record {
      at_most = omega arith;
      some = λ stops. absurd cc;
      repeated = rw kept (repeat_none g.T.Reversible c.self.inside.machine log g.T.Repeatable.repeated c.self.invariant);
      kept = refl;
      before = λ k less. absurd (omega (arith, less));
      all = λ going k less. absurd (omega (arith, less));
    }

pub loop-count-preserved : goal.loop-count-preserved
loop-count-preserved g c =
    let T = g.T.Reversible in
    let action = g.T.Repeatable.repeated in
    let before = c.loop-count.invariant in
    let count = c.loop-count.count in
    let slot = c.slot_before-end.ensures in
    let slots = c.as_mut_slice.result.now in
    let end = c.slot_before-end.result + 1 in
    let first = end - c.min.result in
    let heads = c.repeat_into-stretch.new.heads in
    let left = c.repeat_into-stretch.result.left in
    let stretch = c.repeat_into-stretch.ensures in
    let within = ap length c.as_mut_slice.ensures.value ∙ slot.is.block in
    let long = part_long slots heads first end (omega arith) (omega (arith, slot.within, within)) stretch.same_length in
    let all = sym stretch.same_length ∙ long in
    let some = c.min.ensures in
    let less = stretch.some in
    let going = before.all c.if-not-may_stop.true in
    let unmarked = unmarked_both T g.T.Marked.marks_of c.args.marks.now action count in
    record {
      at_most = omega (arith, some, c.loop-count-test.true, before.at_most);
      some = λ stops. omega (arith, less, all);
      repeated = repeat_part T before.repeated g.met.T.Repeatable.is_admitted c.slot_before-end.new.self (first + left) end slot.is
          (omega (arith, slot.within)) slot.same (omega (arith, less, all)) (drop left heads)
          (omega (arith, long, less, all, length-drop left heads))
          c.repeat_into-stretch.new.machine c.repeat_into-stretch.new.tails stretch.acted
          (with_items c.slot_before-end.new.self.block (take first slots ++ (heads ++ drop (end - first) (drop first slots))))
          (written_block c.slot_before-end.new.self.block slots first end heads left c.as_mut_slice.ensures.value (omega arith)
          (omega (arith, slot.within, within)) long (omega (arith, less, stretch.same_length)) stretch.left)
          (min (c.self.inside.log.kept + (count + (end - (first + left)))) c.slot_before-end.new.self.capacity)
          (omega (arith, slot.same.capacity));
      kept = before.kept;
      before = λ k early. unmarked (end - first - left - 1) c.self.inside.machine c.loop-count.self-inside.machine
          before.repeated.machine_is going
          (λ j earlier. stretch.before j (omega (arith, earlier, all))) k (omega (arith, early, less, all));
      all = λ none k early. unmarked (end - first) c.self.inside.machine c.loop-count.self-inside.machine before.repeated.machine_is
          going
          (λ j earlier. (stretch.all none).1 j (omega (arith, earlier, all))) k (omega (arith, early, (stretch.all none).0));
    }

pub invariant_of-self : goal.invariant_of-self
invariant_of-self g c =
    rw (rw c.loop-count.invariant.kept at c.min-self-inside.ensures)
    (run_ends g.T.Reversible c.self.invariant c.loop-count.invariant.repeated.run)

pub returns-clause-unmarked : goal.returns-clause-unmarked
returns-clause-unmarked g c = rw (← c.self.view_is) c.loop-count.invariant.before
