use Rattle.std.proofs.Common.{length}
use Rattle.pp_console.specs.Paper.{paper_text}
use Rattle.pp_console.proofs.Gathered.{CompletesPiece}
use Rattle.pp_console.proofs.paper.gather_paper.Given as goal

abbrev pub invariant-lines : goal.invariant-lines
invariant-lines g l = CompletesPiece g.W.Sink l.initial.out l.out l.initial.piece.items l.piece.items (paper_text l.symbols)
    (paper_text l.rest)

abbrev pub decreases-lines : goal.decreases-lines
decreases-lines g l = length l.rest
