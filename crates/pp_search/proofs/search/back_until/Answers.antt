use Rattle.std.proofs.Common.{◌+◌, ◌<◌, ◌≤◌, arith, refl, rules as usual, sym}
use Rattle.pp_history.proofs.Steps.{after_steps-more, back_ahead, back_forward, kept_le}
use Rattle.pp_rig.specs.Rules.{rules}
use Rattle.pp_search.proofs.Steps.{back_all, back_found, back_none, back_passed, back_zero}
use Rattle.pp_search.proofs.search.back_until.Goals as goal

pub loop-undone-init : goal.loop-undone-init
loop-undone-init c = record {
  last = search usual;
  within = omega arith;
  left = omega arith;
  has = c.requires.has;
  at = λ v at. rw back_zero at;
  passed = λ v at. back_none c.args.condition.now v;
}

pub returns-then-is_found-clause-last : goal.returns-then-is_found-clause-last
returns-then-is_found-clause-last c = λ v at.
    let less : c.loop-undone.undone + 1 < v.kept = omega (arith, at.kept, c.loop-undone.invariant.last, c.loop-undone-test.true) in
    sym (back_found c.args.condition.now v c.loop-undone.undone c.back_once-is_found.result less
    (c.loop-undone.invariant.passed v at)
    (c.back_once-is_found.ensures.came _ (c.loop-undone.invariant.at v at)) c.if-is_found.true)

pub returns-then-is_found-clause-moves : goal.returns-then-is_found-clause-moves
returns-then-is_found-clause-moves c = λ v at.
    rw (after_steps-more v c.loop-undone.undone 1).0 at (c.back_once-is_found.ensures.at _ (c.loop-undone.invariant.at v at))

pub loop-undone-preserved : goal.loop-undone-preserved
loop-undone-preserved c = record {
  last = c.loop-undone.invariant.last;
  within = omega (arith, c.loop-undone-test.true);
  left = omega (arith, c.back_once-is_found.ensures.kept, c.loop-undone.invariant.left);
  has = c.back_once-is_found.ensures.has;
  at = λ v at. rw (after_steps-more v c.loop-undone.undone 1).0 at
      (c.back_once-is_found.ensures.at _ (c.loop-undone.invariant.at v at));
  passed = λ v at.
      let less : c.loop-undone.undone + 1 < v.kept = omega (arith, at.kept, c.loop-undone.invariant.last, c.loop-undone-test.true)
      in
      back_passed c.args.condition.now v c.loop-undone.undone c.back_once-is_found.result less (c.loop-undone.invariant.passed v at)
      (c.back_once-is_found.ensures.came _ (c.loop-undone.invariant.at v at)) c.if-is_found.false;
}

pub unreachable-requires : goal.unreachable-requires
unreachable-requires c =
    let (v, at) = c.has_session_value.ensures in
    let moved = c.loop-undone.invariant.at v at in
    let kept : c.loop-undone.undone ≤ v.kept = omega (arith, at.kept, c.loop-undone.invariant.left) in
    let ahead = back_ahead v c.loop-undone.undone kept (kept_le rules c.args.session.now v at) in
    let few = c.in_default.ensures.fails.0 refl in
    let same = rw moved.ahead at few in
    absurd (omega (arith, ahead, same))

pub returns-clause-last : goal.returns-clause-last
returns-clause-last c = λ v at.
    let past : v.kept ≤ c.loop-undone.undone + 1 = omega (arith, at.kept, c.loop-undone.invariant.last, c.loop-undone-test.false) in
    sym (back_all c.args.condition.now v c.loop-undone.undone past (c.loop-undone.invariant.passed v at))

pub returns-clause-moves : goal.returns-clause-moves
returns-clause-moves c = λ v at.
    let kept : c.loop-undone.undone ≤ v.kept = omega (arith, at.kept, c.loop-undone.invariant.left) in
    rw (back_forward v c.loop-undone.undone kept (kept_le rules c.args.session.now v at)) at
    (c.in-Ok.ensures.moves _ (c.loop-undone.invariant.at v at))
