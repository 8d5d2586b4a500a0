use Rattle.std.proofs.Common.{rules}
use Rattle.pp_lines.proofs.Writing.{Appends-further}
use Rattle.pp_lines.proofs.output.put_all.Goals as goal

pub loop-written-preserved : goal.loop-written-preserved
loop-written-preserved g c = record {
  within = search rules;
  text = Appends-further _ _ _ _ _ _ c.loop-written.invariant.text (c.in_ok-written.ensures.bytes, c.in_ok-written.ensures.held);
  counted = search rules;
}
