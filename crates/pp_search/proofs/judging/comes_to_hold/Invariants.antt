use Rattle.std.proofs.Common.{◌≡◌, drop}
use Rattle.std.specs.List.{list_any}
use Rattle.pp_history.specs.UndoRecord.{whole_record}
use Rattle.pp_rig.specs.Inner.ActionRecords.{before, record_pairs}
use Rattle.pp_rig.specs.Inner.Short.{unpacked}
use Rattle.pp_search.specs.Condition.{comes}
use Rattle.pp_search.specs.declared.condition.Alternative.{Alternative}
use Rattle.pp_search.proofs.judging.comes_to_hold.Given as goal

abbrev pub invariant-loop-alternative : goal.invariant-loop-alternative
invariant-loop-alternative l =
    let back = whole_record unpacked l.back in
    let one = λ (alternative : Alternative). comes alternative (before back l.machine) (record_pairs back) l.machine in
    list_any one l.condition.alternatives.items ≡ list_any one (drop l.alternative-index l.condition.alternatives.items)
