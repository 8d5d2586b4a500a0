use Rattle.std.proofs.Common.{◌+◌, ◌-◌, []}
use Rattle.pp_console.specs.Dumps.{each, central_line, central_text}
use Rattle.pp_console.proofs.Gathered.{CompletesPiece}
use Rattle.pp_console.proofs.dumps.put_central.Given as goal

abbrev pub invariant-loop-a : goal.invariant-loop-a
invariant-loop-a g l = CompletesPiece g.W.Sink l.initial.out l.out [] l.piece.items (central_text l.machine l.first l.last)
    (each (central_line l.machine) l.a (l.last + 1 - l.a))
