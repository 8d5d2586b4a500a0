use Rattle.pp_history.proofs.Names.{◌≡◌, ◌∙◌, ◌+◌, ◌-◌, arith, drop, drop_all, length, length-drop, length-set, machine_after, refl}
use Rattle.pp_history.proofs.{Recordings.recorded_more, Recordings.recorded_none}
use Rattle.pp_history.proofs.{Recordings.room_more, Repeats.acted_machine, Repeats.set_last}
use Rattle.pp_history.proofs.recordable.record_all.Goals as goal

pub loop-left-init : goal.loop-left-init
loop-left-init g c = let R = g.T.Recordable in let heads = c.args.heads.now in record {
  within = omega arith;
  same_length = refl;
  made_length = refl;
  olds_length = refl;
  turns = refl;
  at_most = omega arith;
  acted = rw (drop_all (length heads) heads (omega arith)) (refl, refl);
  recorded = λ count same.
      let none : count ≡ 0 = omega (arith, same) in
      rw none (recorded_none g.T.Reversible R.label_of R.moment_of R.old_of g.T.Repeatable.repeated c.args.machine.now c.args.first
      c.args.made.now c.args.used c.args.olds.now);
}

pub record_once-moment-requires-clause-room : goal.record_once-moment-requires-clause-room
record_once-moment-requires-clause-room g c =
    omega (arith, c.requires.room, (acted_machine g.T.Reversible _ _ _ _ _ _ c.loop-left.invariant.acted).1)

pub record_once-moment-requires-clause-olds_room : goal.record_once-moment-requires-clause-olds_room
record_once-moment-requires-clause-olds_room g c =
    let before = c.loop-left.invariant in
    omega (
      arith,
      c.requires.olds_room,
      before.olds_length,
      before.at_most,
      room_more c.loop-left.left g.T.Recordable.most
          c.loop-left-test.true,
    )

pub loop-left-preserved : goal.loop-left-preserved
loop-left-preserved g c =
    let T = g.T.Reversible in
    let R = g.T.Recordable in
    let action = g.T.Repeatable.repeated in
    let before = c.loop-left.invariant in
    let left = c.loop-left.left in
    let heads = c.loop-left.heads in
    let some = c.loop-left-test.true in
    let once = c.record_once-moment in
    let long = length-set heads (left - 1) once.new.head in
    let done = length c.args.heads.now - left in
    let was = acted_machine T action (drop left heads) _ _ _ _ before.acted in
    let many : length (drop left heads) ≡ done = omega (arith, length-drop left heads, before.same_length) in
    let now : c.loop-left.machine ≡ machine_after T done action c.args.machine.now = rw many at was.0 in
    let turns : c.loop-left.turns ≡ c.args.first + done = omega (arith, before.turns, before.within, before.same_length) in
    let more = recorded_more T R.label_of R.moment_of R.old_of action c.args.machine.now c.args.first c.args.made.now c.args.used
    c.args.olds.now
    done c.loop-left.made c.loop-left.end c.loop-left.olds (before.recorded done (omega (arith, before.within, before.same_length)))
    c.loop-left.machine now once.result.0 once.ensures.moment
    (omega (arith, c.requires.made_room, before.made_length, before.within, before.same_length, some))
    once.result.1 once.new.olds once.ensures.items in
    record {
      within = omega (arith, before.within, long);
      same_length = long ∙ before.same_length;
      made_length = length-set c.loop-left.made c.loop-left.turns once.result.0 ∙ before.made_length;
      olds_length = once.auto.olds ∙ before.olds_length;
      turns = omega (arith, before.turns, some);
      at_most = omega (arith, before.at_most, once.ensures.at_most, room_more left R.most some);
      acted = rw (set_last left heads once.new.head (omega (arith, some)) before.within)
          (c.loop-left.machine, c.loop-left.tails, before.acted, once.ensures.acted);
      recorded = λ count same.
          let next : count ≡ done + 1 = omega (arith, same, some, before.within, before.same_length) in rw (next, turns) more;
    }
