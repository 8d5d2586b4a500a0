use Rattle.std.proofs.Common.{◌≡◌, ◌<◌, ◌≤◌, arith, refl, rules as usual, sym}
use Rattle.pp_history.proofs.Steps.{after_steps-more}
use Rattle.pp_history.specs.SessionValue.{after_back}
use Rattle.pp_search.proofs.Steps.{back_zero, size_at}
use Rattle.pp_search.proofs.LastWrite.{write_all, write_found, write_none, write_passed}
use Rattle.pp_search.proofs.writes.back_to_write.Goals as goal

pub loop-undone-init : goal.loop-undone-init
loop-undone-init c = record {
  kept = search usual;
  within = omega arith;
  left = omega arith;
  has = c.requires.has;
  at = λ v at. rw back_zero at;
  passed = λ v at. write_none c.args.first c.args.count v;
}

pub returns-then-has_newest_written-clause-write : goal.returns-then-has_newest_written-clause-write
returns-then-has_newest_written-clause-write c = λ v at.
    let less : c.loop-undone.undone < v.kept = omega (arith, at.kept, c.loop-undone.invariant.kept, c.loop-undone-test.true) in
    sym (write_found c.args.first c.args.count v c.loop-undone.undone c.has_newest_written.result less
    (c.loop-undone.invariant.passed v at)
    (c.has_newest_written.ensures _ (c.loop-undone.invariant.at v at)) c.if-has_newest_written.true)

pub loop-undone-preserved : goal.loop-undone-preserved
loop-undone-preserved c =
    let (v, at) = c.has_session_value.ensures in
    let here = c.loop-undone.invariant.at v at in
    let moved = c.in-Ok.ensures.moves _ here in
    record {
      kept = c.loop-undone.invariant.kept;
      within = omega (arith, c.loop-undone-test.true);
      left = omega (
        arith,
        moved.kept,
        here.kept,
        at.kept,
        c.loop-undone.invariant.left,
        c.loop-undone.invariant.kept,
        c.loop-undone-test.true,
      );
      has = rw (size_at c.loop-undone.session c.back.new.self (after_back v c.loop-undone.undone)
          (after_back (after_back v c.loop-undone.undone) 1)
          here moved refl) c.loop-undone.invariant.has;
      at = λ v at. rw (after_steps-more v c.loop-undone.undone 1).0 at (c.in-Ok.ensures.moves _ (c.loop-undone.invariant.at v at));
      passed = λ v at.
          let less : c.loop-undone.undone < v.kept = omega (arith, at.kept, c.loop-undone.invariant.kept, c.loop-undone-test.true)
          in
          write_passed c.args.first c.args.count v c.loop-undone.undone c.has_newest_written.result less
          (c.loop-undone.invariant.passed v at)
          (c.has_newest_written.ensures _ (c.loop-undone.invariant.at v at)) c.if-has_newest_written.false;
    }

pub returns-clause-write : goal.returns-clause-write
returns-clause-write c = λ v at.
    let past : v.kept ≤ c.loop-undone.undone = omega (arith, at.kept, c.loop-undone.invariant.kept, c.loop-undone-test.false) in
    sym (write_all c.args.first c.args.count v c.loop-undone.undone past (c.loop-undone.invariant.passed v at))

pub returns-clause-moves : goal.returns-clause-moves
returns-clause-moves c = λ v at.
    let all : c.loop-undone.undone ≡ v.kept =
    omega (arith, at.kept, c.loop-undone.invariant.kept, c.loop-undone.invariant.within, c.loop-undone-test.false) in
    rw all at (c.loop-undone.invariant.at v at)
