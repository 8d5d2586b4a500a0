use Rattle.std.proofs.Common.{◌≡◌, ◌*◌}
use Rattle.arrayvec.specs.ArrayVec.{array_vec_len}
use Rattle.pp_console.specs.Dumps.{each, channel_line}
use Rattle.pp_console.proofs.dumps.put_channels.Given as goal

abbrev pub invariant-loop-c : goal.invariant-loop-c
invariant-loop-c g l = record {
  items : l.lines.items ≡ each (channel_line l.machine) 0 l.c;
  len : array_vec_len l.lines ≡ 12 * l.c;
}
