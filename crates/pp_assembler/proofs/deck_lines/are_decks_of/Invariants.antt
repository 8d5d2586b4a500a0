use Rattle.std.proofs.Common.{ℕ, ◌<◌}
use Rattle.pp_assembler.specs.DeckLines.{HasDeck}
use Rattle.pp_assembler.proofs.deck_lines.are_decks_of.Given as goal

abbrev pub invariant-loop-at : goal.invariant-loop-at
invariant-loop-at l = (at : ℕ) → at < l.at → HasDeck l.lines l.texts l.decks.all.items at
