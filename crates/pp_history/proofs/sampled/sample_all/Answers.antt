use Rattle.pp_history.proofs.Names.{◌≡◌, ◌∙◌, ◌+◌, ◌-◌, append-nil, arith, drop, drop_all, length, length-drop, length-set, machine_after, refl, sym, take}
use Rattle.pp_history.proofs.{Repeats.acted_machine, Repeats.set_last, Runs.acted, Samples.sampled_more}
use Rattle.pp_history.specs.Sampling.{samples}
use Rattle.pp_history.proofs.sampled.sample_all.Goals as goal

pub loop-left-init : goal.loop-left-init
unfolding samples
loop-left-init g c = let heads = c.args.heads.now in record {
  within = omega arith;
  same_length = refl;
  taken_length = refl;
  next = refl;
  acted = rw (drop_all (length heads) heads (omega arith)) (refl, refl);
  samples = λ count same.
      let none : count ≡ 0 = omega (arith, same) in
      let here : c.args.first + 0 ≡ c.args.first = omega arith in
      rw (none, here) (sym (append-nil (take c.args.first c.args.taken.now)));
}

pub perform-requires-clause-room : goal.perform-requires-clause-room
perform-requires-clause-room g c =
    omega (arith, c.requires.room, (acted_machine g.T.Reversible _ _ _ _ _ _ c.loop-left.invariant.acted).1)

pub loop-left-preserved : goal.loop-left-preserved
loop-left-preserved g c =
    let T = g.T.Reversible in
    let action = g.T.Repeatable.repeated in
    let before = c.loop-left.invariant in
    let left = c.loop-left.left in
    let heads = c.loop-left.heads in
    let some = c.loop-left-test.true in
    let head = c.perform.new.head in
    let long = length-set heads (left - 1) head in
    let done = length c.args.heads.now - left in
    let was = acted_machine T action (drop left heads) _ _ _ _ before.acted in
    let many : length (drop left heads) ≡ done = omega (arith, length-drop left heads, before.same_length) in
    let now : c.loop-left.machine ≡ machine_after T done action c.args.machine.now = rw many at was.0 in
    let here : c.loop-left.next ≡ c.args.first + done = omega (arith, before.next, before.within, before.same_length) in
    let once = rw c.repeated.ensures at (acted T {new = c.perform.new.self} c.perform.ensures.next c.perform.ensures.kept) in
    record {
      within = omega (arith, before.within, long);
      same_length = long ∙ before.same_length;
      taken_length = length-set c.loop-left.taken c.loop-left.next c.sample.result ∙ before.taken_length;
      next = omega (arith, before.next, some);
      acted = rw (set_last left heads head (omega (arith, some)) before.within)
          (c.loop-left.machine, c.loop-left.tails, before.acted, once);
      samples = λ count same.
          let all : count ≡ done + 1 = omega (arith, same, some, before.within, before.same_length) in
          rw (all, here, c.sample.ensures) (sampled_more T action g.T.Sampled.sample_of done c.args.first c.args.machine.now c.loop-left.machine
          c.args.taken.now c.loop-left.taken (before.samples done (omega (arith, before.within, before.same_length))) now
          (omega (arith, c.requires.taken_room, before.taken_length, before.within, before.same_length, some)));
    }
