use Rattle.std.proofs.Common.{◌≡◌, ◌-◌, arith, drop, inl, length, not, refl, rules, take}
use Rattle.std.proofs.Math.Seq.{take-add}
use Rattle.pp_console.proofs.Continuing.{answers_part, ends_after, next_lines, one_at_most, past_next, same_again, same_left}
use Rattle.pp_console.proofs.Continuing.{so_far_more, so_far_none, so_far_same, still_open}
use Rattle.pp_console.specs.Script.{script}
use Rattle.pp_lines.specs.Lines.{lines, unfinished}
use Rattle.pp_console.proofs.answering.answer_lines.Goals as goal

pub loop-taken-init : goal.loop-taken-init
loop-taken-init c = record {
  within = search rules;
  line_limit = search rules;
  refused = search rules;
  same = record { name = refl; length = refl; failures = c.requires.failures };
  ended = inl refl;
  so_far = λ start at. so_far_none c.args.session.now c.args.room.now start at c.requires.empty;
}

pub returns-then-is_past-clause-answers : goal.returns-then-is_past-clause-answers
returns-then-is_past-clause-answers c = λ start at.
    let typed = c.args.typed.now in let taken = c.loop-taken.taken in let first = c.first_line-bytes in
    let rest = next_lines (drop taken typed) first.result.0.now first.result.1 first.ensures.line first.ensures.ends in
    let past = past_next c.loop-taken.lines taken first.result.1 (length first.result.0.now)
    (c.is_past.ensures.past c.if-is_past.true) first.ensures.bytes.2 in
    answers_part c.loop-taken.session c.loop-taken.room typed start _ (c.loop-taken.invariant.so_far start at)
    c.loop-taken.invariant.ended
    c.loop-taken.invariant.within c.count.ensures.count
    (first.result.0.now, lines (drop first.result.1 (drop taken typed)), rest, past)

pub returns-in_default-clause-answers : goal.returns-in_default-clause-answers
returns-in_default-clause-answers c = λ start at.
    let typed = c.args.typed.now in let taken = c.loop-taken.taken in let first = c.first_line-bytes in
    let so_far = c.loop-taken.invariant.so_far start at in
    let (kept, same, less) = c.in_default.ensures.fits (script start (take taken typed)).value so_far.leaves in
    let rest = next_lines (drop taken typed) first.result.0.now first.result.1 first.ensures.line first.ensures.ends in
    let left = same_left c.loop-taken.room c.answer_within.new.room _ same c.answer_within.ensures.same.length less in
    answers_part c.answer_within.new.session c.answer_within.new.room typed start _
    (so_far_same c.loop-taken.session c.answer_within.new.session c.loop-taken.room c.answer_within.new.room start
    (take taken typed) _ _ so_far kept same)
    c.loop-taken.invariant.ended c.loop-taken.invariant.within c.count-in_default.ensures.count
    (first.result.0.now, lines (drop first.result.1 (drop taken typed)), rest, rw c.count-in_default.ensures.count left)

pub loop-taken-preserved : goal.loop-taken-preserved
loop-taken-preserved c =
    let typed = c.args.typed.now in let taken = c.loop-taken.taken in let first = c.first_line-bytes in
    let opened = still_open taken (length typed) (unfinished (take taken typed)) c.loop-taken.invariant.ended c.loop-taken-test.true
    in
    let counted = one_at_most (not c.in-Some.performed) in
    record {
      within = omega (arith, first.ensures.bytes.1, c.loop-taken-test.true);
      line_limit = omega (arith, c.is_past.ensures.within c.if-is_past.false);
      refused = omega (arith, c.loop-taken.invariant.refused, c.from-refused.ensures, counted);
      same = same_again c.args.room.now c.loop-taken.room c.answer_within.new.room c.loop-taken.invariant.same
          c.answer_within.ensures.same;
      ended = ends_after typed taken first.result.1 c.loop-taken.invariant.within opened first.ensures.ends;
      so_far = λ start at.
          let so_far = c.loop-taken.invariant.so_far start at in
          rw (take-add taken first.result.1 typed, c.from-refused.ensures)
          (so_far_more c.loop-taken.session c.answer_within.new.session c.loop-taken.room c.answer_within.new.room start
          (take taken typed)
          (take first.result.1 (drop taken typed)) first.result.0.now c.loop-taken.lines c.loop-taken.refused c.in-Some.performed
          so_far opened
          first.ensures.line (c.in-Some.ensures.fits (script start (take taken typed)).value so_far.leaves));
    }

pub returns-clause-answers : goal.returns-clause-answers
returns-clause-answers c = λ start at.
    let all : c.loop-taken.taken ≡ length c.args.typed.now = omega (arith, c.loop-taken-test.false, c.loop-taken.invariant.within)
    in
    answers_part c.loop-taken.session c.loop-taken.room c.args.typed.now start _ (c.loop-taken.invariant.so_far start at)
    c.loop-taken.invariant.ended
    c.loop-taken.invariant.within c.count-2.ensures.count all
