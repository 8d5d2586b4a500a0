use Rattle.std.proofs.Common.{◌≡◌, ◌-◌, ◌≤◌, ◌⊎◌, [], length, take}
use Rattle.pp_console.proofs.{Continuing.SoFar, Prelude.IsAt, Prelude.LINE_LIMIT, Prelude.Value, Prelude.rules}
use Rattle.pp_console.specs.Answering.{IsSameSlice}
use Rattle.pp_lines.specs.Lines.{unfinished}
use Rattle.pp_console.proofs.answering.answer_lines.Given as goal

abbrev pub invariant-loop-taken : goal.invariant-loop-taken
invariant-loop-taken l = record {
  within : l.taken ≤ length l.typed;
  line_limit : l.lines ≤ LINE_LIMIT;
  refused : l.refused ≤ l.lines;
  same : IsSameSlice l.fn.room l.room;
  ended : (unfinished (take l.taken l.typed) ≡ []) ⊎ (l.taken ≡ length l.typed);
  so_far : (start : Value) → IsAt rules l.fn.session start → SoFar l.session l.room start (take l.taken l.typed) l.lines l.refused;
}

abbrev pub decreases-loop-taken : goal.decreases-loop-taken
decreases-loop-taken l = length l.typed - l.taken
