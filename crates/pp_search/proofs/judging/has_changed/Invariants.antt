use Rattle.std.proofs.Common.{◌≡◌, ◌+◌, ◌-◌}
use Rattle.pp_history.specs.UndoRecord.{whole_record}
use Rattle.pp_rig.specs.Inner.ActionRecords.{before}
use Rattle.pp_rig.specs.Inner.Short.{unpacked}
use Rattle.pp_search.specs.Condition.{is_changed, is_of_any}
use Rattle.pp_search.proofs.judging.has_changed.Given as goal

abbrev pub invariant-loop-k : goal.invariant-loop-k
invariant-loop-k l =
    let is = is_changed (before (whole_record unpacked l.back) l.machine) l.machine in
    is_of_any is l.first l.count ≡ is_of_any is (l.first + l.k) (l.count - l.k)
