use Rattle.pp_assembler.proofs.DeckTexts.{cut_of_taken}
use Rattle.pp_assembler.proofs.deck_lines.is_deck_of.Goals as goal

pub returns : goal.returns
returns c = λ right. record {
  first = c.saturating_sub-first.result;
  few = c.if-first-gt-MOST_NAMING.false;
  end = c.in_ok-end.end;
  is_end = c.in_ok-end.ensures;
  cut = cut_of_taken c.args.lines.now c.args.text.now c.args.spans.now c.head-spans.result.now c.in_ok-end.end _ c.args.own.now
      c.head-spans.ensures (c.in_ok-is_cut.ensures right);
}
