use Rattle.std.proofs.Common.{◌-◌, []}
use Rattle.pp_console.specs.Dumps.{each, cells_text}
use Rattle.pp_console.proofs.{Each.row_at, Gathered.CompletesPiece}
use Rattle.pp_console.proofs.dumps.put_cells.Given as goal

abbrev pub invariant-loop-row : goal.invariant-loop-row
invariant-loop-row g l = CompletesPiece g.W.Sink l.initial.out l.out [] l.piece.items (cells_text l.machine l.pp l.first l.last)
    (each (row_at l.machine l.pp l.first l.last) l.row (l.count - l.row))
