use Rattle.std.proofs.Common.{◌+◌, ◌≤◌}
use Rattle.test_console.proofs.sessions.gauge.repeat.Given as goal

abbrev pub invariant-loop-left : goal.invariant-loop-left
invariant-loop-left l = l.calls + l.left ≤ l.n

abbrev pub decreases-loop-left : goal.decreases-loop-left
decreases-loop-left l = l.left
