use Rattle.std.proofs.Common.{◌≡◌, ◌+◌, ◌-◌, arith, inr, map, rules}
use Rattle.pp_decks.specs.Places.{text_in}
use Rattle.pp_assembler.proofs.DeckTexts.{endx_at, none_next}
use Rattle.pp_assembler.proofs.deck_lines.end_of.Goals as goal

pub returns-then-branch : goal.returns-then-branch
returns-then-branch c =
    let here : c.loop-index.index + 1 - 1 ≡ c.loop-index.index = omega arith in
    record {
      ended = inr (rw here (endx_at c.args.text.now c.args.spans.now c.loop-index.index _ c.of.result.now c.in_ok-is_endx.field-0 _
          c.loop-index-test.true c.of.ensures c.in_ok-is_endx.ensures (search rules)));
      none_before = λ at before. c.loop-index.invariant at (omega (arith, before));
    }

pub loop-index-preserved : goal.loop-index-preserved
loop-index-preserved c = λ at below.
    none_next (map (text_in c.args.text.now) c.args.spans.now) c.loop-index.index at c.loop-index.invariant
    (endx_at c.args.text.now c.args.spans.now c.loop-index.index _ c.of.result.now c.in_ok-is_endx.field-0 _
    c.loop-index-test.true c.of.ensures c.in_ok-is_endx.ensures (search rules)) below
