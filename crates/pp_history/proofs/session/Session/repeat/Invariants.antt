use Rattle.pp_history.proofs.Names.{◌≡◌, ◌+◌, ◌-◌, ◌≤◌, min, AreUnmarked, false, true}
use Rattle.pp_history.proofs.Repeats.{IsRepeated}
use Rattle.pp_history.proofs.session.Session.repeat.Given as goal

abbrev pub invariant-loop-count : goal.invariant-loop-count
invariant-loop-count g l = let T = g.T.Reversible in let action = g.T.Repeatable.repeated in let log = l.self-inside.log in record {
  at_most : l.count ≤ l.n;
  some : l.may_stop ≡ true → 1 ≤ l.count;
  repeated : IsRepeated T l.initial.self-inside.machine l.initial.self-inside.log action l.count l.self-inside.machine
      (record log { at = l.at; kept = min (l.initial.self-inside.log.kept + l.count) log.heads.capacity; ahead = l.ahead });
  kept : log.kept ≡ l.initial.self-inside.log.kept;
  before : AreUnmarked T g.T.Marked.marks_of l.marks action (l.count - 1) l.initial.self-inside.machine;
  all : l.may_stop ≡ false → AreUnmarked T g.T.Marked.marks_of l.marks action l.count l.initial.self-inside.machine;
}

abbrev pub decreases-loop-count : goal.decreases-loop-count
decreases-loop-count g l = l.n - l.count
