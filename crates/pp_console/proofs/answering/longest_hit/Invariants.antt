use Rattle.std.proofs.Common.{◌≡◌, ◌-◌, ◌≤◌, drop, length}
use Rattle.pp_console.specs.AnswerRoom.{longest_hit}
use Rattle.pp_console.proofs.answering.longest_hit.Given as goal

abbrev pub invariant-loop-i : goal.invariant-loop-i
invariant-loop-i l = record {
  longest : l.longest ≡ longest_hit (drop (length l.watches - l.i) l.watches);
  within : l.longest ≤ 55;
}
