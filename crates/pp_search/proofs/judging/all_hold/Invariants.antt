use Rattle.std.proofs.Common.{◌≡◌, drop}
use Rattle.pp_history.specs.UndoRecord.{whole_record}
use Rattle.pp_rig.specs.Inner.ActionRecords.{before, record_pairs}
use Rattle.pp_rig.specs.Inner.Short.{unpacked}
use Rattle.pp_search.specs.Condition.{all_hold}
use Rattle.pp_search.proofs.judging.all_hold.Given as goal

abbrev pub invariant-loop-test : goal.invariant-loop-test
invariant-loop-test l =
    let back = whole_record unpacked l.back in
    let old = before back l.machine in
    all_hold l.tests old (record_pairs back) l.machine ≡ all_hold (drop l.test-index l.tests) old (record_pairs back) l.machine
