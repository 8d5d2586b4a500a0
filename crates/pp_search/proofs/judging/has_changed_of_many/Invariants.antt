use Rattle.std.proofs.Common.{◌≡◌, ◌+◌, ◌<◌, ◌≤◌, ℕ, false, get_or}
use Rattle.pp_history.specs.UndoRecord.{whole_record}
use Rattle.pp_machine.specs.Numbering.{place_at}
use Rattle.pp_machine.specs.declared.olds.Old.{Old}
use Rattle.pp_rig.specs.Inner.ActionRecords.{before}
use Rattle.pp_rig.specs.Inner.Short.{unpacked}
use Rattle.pp_search.specs.Condition.{is_changed}
use Rattle.pp_search.proofs.judging.has_changed_of_many.Given as goal

abbrev pub invariant-loop-k : goal.invariant-loop-k
invariant-loop-k l =
    (j : ℕ) → j < l.k → (d : Old) → l.first ≤ (get_or l.olds j d).place → (get_or l.olds j d).place < l.first + l.count →
    is_changed (before (whole_record unpacked l.back) l.machine) l.machine (place_at (get_or l.olds j d).place) ≡ false
