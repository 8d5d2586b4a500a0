use Rattle.pp_history.proofs.Names.{◌≤◌, Buffer, Tails, AreFitting, AreUndone, drop}
use Rattle.pp_history.proofs.step.undo_all.Given as goal

abbrev pub invariant-loop-head : goal.invariant-loop-head
invariant-loop-head g l = let T = g.T.Reversible in let left = drop l.head-index l.heads in record {
  fit : AreFitting T left l.machine l.tails;
  room : 1 ≤ l.undone.capacity;
  rest : (machine : g.row.T.Denot) (tails : Tails g.row.T-Action.Denot g.row.T-Record.Denot) (undone : Buffer g.row.T-Action.Denot) →
      AreUndone T left l.machine machine l.tails tails l.undone undone →
      AreUndone T l.heads l.initial.machine machine l.initial.tails tails l.initial.undone undone;
}
