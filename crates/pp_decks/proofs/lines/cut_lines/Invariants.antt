use Rattle.std.proofs.Common.{map, take}
use Rattle.pp_decks.specs.Places.{length_of}
use Rattle.pp_decks.proofs.LineLengths.{HasRead}
use Rattle.pp_decks.proofs.LineTexts.{HasCut}
use Rattle.pp_decks.proofs.lines.cut_lines.Given as goal

abbrev pub invariant-loop-at : goal.invariant-loop-at
invariant-loop-at l = HasRead (take l.at l.source) (map length_of l.spans.items) l.first l.at
    × HasCut l.source l.spans.items l.first l.at
