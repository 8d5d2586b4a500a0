use Rattle.std.proofs.Common.{drop, map}
use Rattle.pp_console.specs.DisplayCode.{character}
use Rattle.pp_console.proofs.Gathered.{CompletesPiece}
use Rattle.pp_console.proofs.paper.gather_characters.Given as goal

abbrev pub invariant-loop-symbol : goal.invariant-loop-symbol
invariant-loop-symbol g l = CompletesPiece g.W.Sink l.initial.out l.out l.initial.piece.items l.piece.items
    (map character l.symbols) (map character (drop l.symbol-index l.symbols))
