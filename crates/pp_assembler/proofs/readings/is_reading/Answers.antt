use Rattle.std.proofs.Common.{rules}
use Rattle.pp_assembler.proofs.DeckReadings.{reading_from}
use Rattle.pp_assembler.proofs.readings.is_reading.Goals as goal

pub returns : goal.returns
returns c = λ right. reading_from c.args.lines.now c.args.decks.now.all.items c.args.reading c.in-Some.index
    c.name_of.result.now c.find.result c.deck_lines.result.now c.tail.result.now c.name_of.ensures (search rules) (search rules)
    (search rules) (search rules) (c.are_copies.ensures right)
