use Rattle.std.proofs.Common.{◌≡◌, ◌+◌, ◌-◌}
use Rattle.pp_history.specs.UndoRecord.{whole_record}
use Rattle.pp_rig.specs.Inner.ActionRecords.{record_pairs}
use Rattle.pp_rig.specs.Inner.Short.{unpacked}
use Rattle.pp_search.specs.Condition.{is_of_any, is_written}
use Rattle.pp_search.proofs.judging.has_written.Given as goal

abbrev pub invariant-loop-k : goal.invariant-loop-k
invariant-loop-k l =
    let is = is_written (record_pairs (whole_record unpacked l.back)) in
    is_of_any is l.first l.count ≡ is_of_any is (l.first + l.k) (l.count - l.k)
