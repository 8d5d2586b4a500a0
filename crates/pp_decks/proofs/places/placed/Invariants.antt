use Rattle.std.proofs.Common.{map, All}
use Rattle.pp_decks.specs.Places.{IsOfLine, length_of}
use Rattle.pp_decks.proofs.places.placed.Given as goal

abbrev pub invariant-loop-complaint : goal.invariant-loop-complaint
invariant-loop-complaint l = All (IsOfLine (map length_of l.spans)) l.placed.items
