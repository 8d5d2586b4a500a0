use Rattle.std.proofs.Common.{◌≡◌, take}
use Rattle.arrayvec.specs.ArrayVec.{array_vec_len}
use Rattle.pp_machine.specs.WriteList.{write_list}
use Rattle.pp_actions.specs.RecordLists.{numbers}
use Rattle.pp_actions.proofs.deadstart.numbers_of.Given as goal

abbrev pub invariant-loop-pair : goal.invariant-loop-pair
invariant-loop-pair l = record {
  count : array_vec_len l.list ≡ l.pair-index;
  so_far : l.list.items ≡ numbers (write_list (take l.pair-index l.pairs));
}
