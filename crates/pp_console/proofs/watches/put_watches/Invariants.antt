use Rattle.std.proofs.Common.{◌≡◌, ◌≤◌, ◌*◌, take}
use Rattle.std.specs.List.{flat_map}
use Rattle.arrayvec.specs.ArrayVec.{array_vec_len}
use Rattle.pp_console.specs.Watches.{watch_text}
use Rattle.pp_console.proofs.watches.put_watches.Given as goal

abbrev pub invariant-loop-watched : goal.invariant-loop-watched
invariant-loop-watched g l = record {
  items : l.lines.items ≡ flat_map watch_text (take l.watched-index l.watches);
  room : array_vec_len l.lines ≤ 12 * l.watched-index;
}
