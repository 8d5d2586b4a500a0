use Rattle.pp_history.specs.UndoRecord.{whole_record}
use Rattle.pp_rig.specs.Inner.ActionRecords.{record_pairs}
use Rattle.pp_rig.specs.Inner.Short.{unpacked}
use Rattle.pp_search.proofs.LastWrite.{newest_wrote}
use Rattle.pp_search.proofs.writes.has_newest_written.Goals as goal

pub returns : goal.returns
returns c = λ v at.
    newest_wrote c.args.first c.args.count v.start v.standing (record_pairs (whole_record unpacked c.in-Some.back))
    c.has_written.result
    (c.in-Some.ensures.old_values v at) c.has_written.ensures
