use Rattle.std.proofs.Common.{All}
use Rattle.pp_machine.specs.ReaderNumbers.{IsCard}
use Rattle.test_machine.proofs.reader.deck_of.Given as goal

abbrev pub invariant-loop-card : goal.invariant-loop-card
invariant-loop-card l = All IsCard l.deck.items
