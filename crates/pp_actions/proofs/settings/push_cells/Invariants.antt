use Rattle.std.proofs.Common.{◌≡◌, ◌+◌, ◌++◌, drop}
use Rattle.arrayvec.specs.ArrayVec.{array_vec_len}
use Rattle.pp_machine.specs.WriteList.{write_list}
use Rattle.pp_actions.specs.WriteLists.{cell_writes}
use Rattle.pp_actions.proofs.settings.push_cells.Given as goal

abbrev pub invariant-loop-i : goal.invariant-loop-i
invariant-loop-i g l = record {
  count : array_vec_len l.list ≡ array_vec_len l.initial.list + l.i;
  so_far : write_list l.list.items ++ cell_writes l.pp (l.a + l.i) (drop l.i l.values)
      ≡ write_list l.initial.list.items ++ cell_writes l.pp l.a l.values;
}
