use Rattle.std.proofs.Common.{refl}
use Rattle.pp_decks.proofs.LineLengths.{HasRead-feed_at, HasRead-byte_at, HasRead-ended_at, HasRead-begun_at}
use Rattle.pp_decks.proofs.LineTexts.{HasCut-feed, HasCut-byte, HasCut-ended, HasCut-begun}
use Rattle.pp_decks.proofs.lines.cut_lines.Goals as goal
use Rattle.pp_decks.proofs.lines.cut_lines.Goals.{then-source-at-eq10+in_ok-push, else-source-at-eq10}
use Rattle.pp_decks.proofs.lines.cut_lines.Goals.{then-first-source+in_ok-push-2, else-first-source}

pub loop-at-preserved : goal.loop-at-preserved
loop-at-preserved c = elim c.if-source-at-eq10.branch [
  | then-source-at-eq10+in_ok-push w ↦ (
    HasRead-feed_at c.args.source.now c.loop-at.spans.items _ c.loop-at.first c.loop-at.at _ c.loop-at.invariant.0
        c.loop-at-test.true
        w.if-source-at-eq10.true (rw w.spans-is w.in_ok-push.ensures.items) w.first-is,
    HasCut-feed c.args.source.now c.loop-at.spans.items _ c.loop-at.first c.loop-at.at _ c.loop-at.invariant.1
        c.loop-at-test.true
        w.if-source-at-eq10.true (rw w.spans-is w.in_ok-push.ensures.items) w.first-is,
  )
  | else-source-at-eq10 w ↦ (
    HasRead-byte_at c.args.source.now c.loop-at.spans.items _ c.loop-at.first c.loop-at.at _ c.loop-at.invariant.0
        c.loop-at-test.true
        w.if-source-at-eq10.false (rw w.spans-is refl) w.first-is,
    HasCut-byte c.args.source.now c.loop-at.spans.items _ c.loop-at.first c.loop-at.at _ c.loop-at.invariant.1
        c.loop-at-test.true
        w.if-source-at-eq10.false (rw w.spans-is refl) w.first-is,
  )
]

pub returns-clause-lengths : goal.returns-clause-lengths
returns-clause-lengths c = elim c.if-first-source.branch [
  | then-first-source+in_ok-push-2 w ↦
      HasRead-begun_at c.args.source.now c.loop-at.spans.items _ c.loop-at.first c.loop-at.at c.loop-at.invariant.0
      c.loop-at-test.false
      c.loop-at.auto.at-end w.if-first-source.true (rw w.spans-is w.in_ok-push-2.ensures.items)
  | else-first-source w ↦
      HasRead-ended_at c.args.source.now c.loop-at.spans.items _ c.loop-at.first c.loop-at.at c.loop-at.invariant.0
      c.loop-at-test.false
      c.loop-at.auto.at-end w.if-first-source.false (rw w.spans-is refl)
]

pub returns-clause-texts : goal.returns-clause-texts
returns-clause-texts c = elim c.if-first-source.branch [
  | then-first-source+in_ok-push-2 w ↦
      HasCut-begun c.args.source.now c.loop-at.spans.items _ c.loop-at.first c.loop-at.at c.loop-at.invariant.1
      c.loop-at-test.false w.if-first-source.true (rw w.spans-is w.in_ok-push-2.ensures.items)
  | else-first-source w ↦
      HasCut-ended c.args.source.now c.loop-at.spans.items _ c.loop-at.first c.loop-at.at c.loop-at.invariant.1
      c.loop-at-test.false w.if-first-source.false (rw w.spans-is refl)
]
