-- An undo record and an action that a session keeps.
use Rattle.pp_history.specs.declared.reversible.KeptAction.{KeptAction}
use Rattle.pp_history.specs.declared.reversible.KeptAction.TheVariants as action
use Rattle.pp_history.specs.declared.reversible.UndoRecord.{UndoRecord}
use Rattle.pp_history.specs.declared.reversible.UndoRecord.TheVariants.{Head, Tail}

-- the whole undo record
abbrev pub whole_record : {A R H : Type 0} → (H → A × R) → UndoRecord H R → R
whole_record unpacked (Head head) = (unpacked head.now).1
whole_record unpacked (Tail back) = back.now

-- the action itself
abbrev pub whole_action : {A R H : Type 0} → (H → A × R) → KeptAction H A → A
whole_action unpacked (action.Head head) = (unpacked head.now).0
whole_action unpacked (action.Tail action) = action.now
