use Rattle.std.proofs.Common.{◌≡◌, ◌+◌, ◌++◌, drop}
use Rattle.arrayvec.specs.ArrayVec.{array_vec_len}
use Rattle.pp_machine.specs.{WriteList.write_list, declared.place.Place.TheVariants.ChannelMode}
use Rattle.pp_actions.specs.WriteLists.{writes_from}
use Rattle.pp_actions.proofs.deadstart.push_states.Given as goal

abbrev pub invariant-loop-c : goal.invariant-loop-c
invariant-loop-c l = record {
  count : array_vec_len l.list ≡ array_vec_len l.initial.list + l.c;
  so_far : write_list l.list.items ++ writes_from ChannelMode l.c (drop l.c l.states)
      ≡ write_list l.initial.list.items ++ writes_from ChannelMode 0 l.states;
}
