use Rattle.std.proofs.Common.{◌≡◌, ◌∙◌, arith, length}
use Rattle.pp_assembler.proofs.DeckTexts.{has_deck_at}
use Rattle.pp_assembler.proofs.deck_lines.has_deck.Goals as goal

pub returns : goal.returns
returns c = λ right.
    let count : c.len.result ≡ length c.args.decks.now.all.items = c.len.ensures ∙ c.args.decks.now.all.ok.0 in
    has_deck_at c.args.lines.now c.args.texts.now c.args.decks.now.all.items c.args.at _ c.index.result.now c.index.result.now
    c.if-at-texts.false (omega (arith, count, c.if-at-len.false)) c.index.ensures (c.in_ok-is_own.ensures right)
