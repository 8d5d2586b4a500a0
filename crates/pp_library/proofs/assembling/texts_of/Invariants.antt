use Rattle.std.proofs.Common.{◌≡◌, map, take}
use Rattle.pp_library.specs.Assembling.{text_of}
use Rattle.pp_library.proofs.assembling.texts_of.Given as goal

abbrev pub invariant-loop-deck : goal.invariant-loop-deck
invariant-loop-deck l = l.texts.items ≡ map text_of (take l.deck-index l.decks)
