use Rattle.std.proofs.Common.{◌≡◌, ◌++◌, drop}
use Rattle.arrayvec.specs.ArrayVec.{array_vec_len}
use Rattle.pp_machine.specs.WriteList.{write_list}
use Rattle.pp_actions.specs.RecordLists.{with_new_numbers}
use Rattle.pp_actions.proofs.deadstart.renumbered.Given as goal

abbrev pub invariant-loop-i : goal.invariant-loop-i
invariant-loop-i l = record {
  count : array_vec_len l.list ≡ l.i;
  so_far : write_list l.list.items ++ with_new_numbers (write_list (drop l.i l.pairs)) (drop l.i l.numbers)
      ≡ with_new_numbers (write_list l.pairs) l.numbers;
}
