use Rattle.pp_history.specs.UndoRecord.{whole_record}
use Rattle.pp_rig.specs.Inner.ActionRecords.{before}
use Rattle.pp_rig.specs.Inner.Short.{unpacked}
use Rattle.pp_search.proofs.judging.holds.Goals as goal

pub returns-in-Waits : goal.returns-in-Waits
returns-in-Waits c =
    let now = c.args.machine.now in
    rw c.in-Waits.is (c.has_waited.ensures (before (whole_record unpacked c.args.back.now) now) now)
