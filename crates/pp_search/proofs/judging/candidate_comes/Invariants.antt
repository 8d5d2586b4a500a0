use Rattle.std.proofs.Common.{◌≡◌, ℕ, All, false, get_or, take}
use Rattle.pp_history.specs.UndoRecord.{whole_record}
use Rattle.pp_rig.specs.Inner.ActionRecords.{before, record_pairs}
use Rattle.pp_rig.specs.Inner.Short.{unpacked}
use Rattle.pp_search.specs.Condition.{comes}
use Rattle.pp_search.specs.declared.condition.Alternative.{Alternative}
use Rattle.pp_search.proofs.judging.candidate_comes.Given as goal

abbrev pub invariant-loop-i : goal.invariant-loop-i
invariant-loop-i l =
    let back = whole_record unpacked l.back in
    let alternatives = l.condition.alternatives.items in
    All (λ (i : ℕ). (d : Alternative) → comes (get_or alternatives i d) (before back l.machine) (record_pairs back) l.machine
    ≡ false)
    (take l.i-index l.candidates.alternatives.items)
