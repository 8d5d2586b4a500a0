use Rattle.std.proofs.Common.{◌≡◌, drop}
use Rattle.pp_history.specs.UndoRecord.{whole_record}
use Rattle.pp_rig.specs.Inner.ActionRecords.{before}
use Rattle.pp_rig.specs.Inner.Short.{unpacked}
use Rattle.pp_search.specs.Condition.{all_met}
use Rattle.pp_search.proofs.judging.were_all_met.Given as goal

abbrev pub invariant-loop-test : goal.invariant-loop-test
invariant-loop-test l =
    let old = before (whole_record unpacked l.back) l.machine in
    all_met l.tests old ≡ all_met (drop l.test-index l.tests) old
