use Rattle.std.proofs.Common.{◌≡◌, ◌*◌}
use Rattle.arrayvec.specs.ArrayVec.{array_vec_len}
use Rattle.pp_console.specs.Dumps.{each, frame_line}
use Rattle.pp_console.proofs.dumps.put_frame.Given as goal

abbrev pub invariant-loop-i : goal.invariant-loop-i
invariant-loop-i g l = record {
  items : l.lines.items ≡ each (frame_line l.machine) 0 l.i;
  len : array_vec_len l.lines ≡ 27 * l.i;
}
