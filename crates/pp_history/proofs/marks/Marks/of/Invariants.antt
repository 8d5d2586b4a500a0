use Rattle.std.proofs.Common.{take}
use Rattle.pp_history.specs.Marks.{AreCovered}
use Rattle.pp_history.proofs.marks.Marks.of.Given as goal

abbrev pub invariant-loop-place : goal.invariant-loop-place
invariant-loop-place g l = AreCovered g.T.Marked.marks_of l.marks (take l.place-index l.places)
