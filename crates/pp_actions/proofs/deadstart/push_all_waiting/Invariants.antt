use Rattle.std.proofs.Common.{◌≡◌, ◌+◌, ◌-◌, ◌*◌, ◌++◌}
use Rattle.std.specs.List.{flat_map, range_with_len}
use Rattle.arrayvec.specs.ArrayVec.{array_vec_len}
use Rattle.pp_machine.specs.WriteList.{write_list}
use Rattle.pp_actions.specs.Deadstart.{waiting}
use Rattle.pp_actions.proofs.deadstart.push_all_waiting.Given as goal

abbrev pub invariant-loop-n : goal.invariant-loop-n
invariant-loop-n l = record {
  count : array_vec_len l.list ≡ array_vec_len l.initial.list + 5 * l.n;
  so_far : write_list l.list.items ++ flat_map waiting (range_with_len (l.n + 1) (9 - l.n))
      ≡ write_list l.initial.list.items ++ flat_map waiting (range_with_len 1 9);
}
