use Rattle.std.proofs.Common.{length, take, ◌-◌, ◌≡◌, ◌≤◌}
use Rattle.pp_lines.specs.Output.{Appends}
use Rattle.pp_lines.proofs.output.put_all.Given as goal

abbrev pub invariant-loop-written : goal.invariant-loop-written
invariant-loop-written g l = record {
  within : l.written ≤ length l.text;
  text : Appends (g.W.Sink.text l.initial.out) (g.W.Sink.text l.out) (take l.written l.text);
  counted : g.W.Sink.failure_count l.out ≡ g.W.Sink.failure_count l.initial.out;
}

abbrev pub decreases-loop-written : goal.decreases-loop-written
decreases-loop-written g l = length l.text - l.written
