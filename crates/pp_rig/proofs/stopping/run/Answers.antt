use Rattle.std.proofs.Common.{arith}
use Rattle.pp_history.specs.SessionLaws.{machine_at}
use Rattle.pp_rig.specs.Rules.{rules}
use Rattle.pp_rig.proofs.Runs.{after_turns_add, part_before, watches_kept}
use Rattle.pp_rig.proofs.stopping.run.Goals as goal

pub returns-then-is_some-clause-stops : goal.returns-then-is_some-clause-stops
returns-then-is_some-clause-stops c =
    let part = part_before c.args.n c.loop-turns.turns c.loop-turns.session.machine _ c.run_part-more.ensures.stops
    (omega (arith, c.run_part-more.ensures.some)) in
    grind (arith, c.loop-turns.invariant.stopped, part, c.is_some.ensures, c.if-is_some.true)

pub returns-then-is_some-clause-is_replay : goal.returns-then-is_some-clause-is_replay
returns-then-is_some-clause-is_replay c =
    λ v at. rw (← machine_at rules c.args.session.now v at) (returns-then-is_some-clause-stops c)

pub returns-then-is_some-clause-at : goal.returns-then-is_some-clause-at
returns-then-is_some-clause-at c = λ v at. rw (← after_turns_add) (c.run_part-more.ensures.at _ (c.loop-turns.invariant.at v at))

pub loop-turns-preserved : goal.loop-turns-preserved
loop-turns-preserved c =
    let part = part_before c.args.n c.loop-turns.turns c.loop-turns.session.machine _ c.run_part-more.ensures.stops
    (omega (arith, c.run_part-more.ensures.some)) in
    let same = watches_kept c.run_part-more.result.turns c.loop-turns.session.machine in
    record {
      at_most = omega (arith, c.run_part-more.ensures.some, c.loop-turns.invariant.at_most, c.loop-turns-test.true);
      at = λ v at. rw (← after_turns_add) (c.run_part-more.ensures.at _ (c.loop-turns.invariant.at v at));
      stopped = grind (
        arith,
        c.run_part-more.ensures.machine,
        c.loop-turns.invariant.stopped,
        part,
        c.is_some.ensures,
        c.if-is_some.false,
      );
      watches = grind (arith, c.run_part-more.ensures.machine, same, c.loop-turns.invariant.watches);
    }
