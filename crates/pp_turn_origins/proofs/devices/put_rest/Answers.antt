use Rattle.pp_history.specs.UndoRecord.{whole_record}
use Rattle.pp_rig.specs.Inner.ActionRecords.{record_pairs}
use Rattle.pp_rig.specs.Inner.Short.{unpacked}
use Rattle.pp_turn_origins.proofs.Told.{rest_in_turn}
use Rattle.pp_turn_origins.proofs.WholeTurn.{three_more}
use Rattle.pp_turn_origins.proofs.devices.put_rest.Goals as goal

pub returns-clause-items : goal.returns-clause-items
returns-clause-items c = λ s ok is are slot symbols column.
    three_more _ _ _ _ _ _ _ _ c.put_reader_turn-used.ensures.items c.put_printer_turn-used.ensures.items c.put_end.ensures.items
    (rest_in_turn s c.args.machine.now (record_pairs (whole_record unpacked c.args.back.now)) c.args.before.now.slot
    c.args.before.now.symbols c.args.before.now.column ok is are slot symbols column)
