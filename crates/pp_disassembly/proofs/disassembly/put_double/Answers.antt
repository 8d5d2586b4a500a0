use Rattle.std.proofs.Common.{arith, refl}
use Rattle.pp_disassembly.proofs.Continuing.{continues-exit}
use Rattle.pp_notation.proofs.RowCells.{first_address-is}
use Rattle.pp_disassembly.proofs.disassembly.put_double.Goals as goal

pub returns : goal.returns
returns c = continues-exit _ _ _ c.name_of.result _ c.args.operation c.args.row.now _
    (first_address-is c.args.row.now _ (omega arith)) c.requires.row c.requires.cells c.requires.words c.requires.place
    c.name_of.ensures refl c.in_ok-push-3.ensures.continues c.in_ok-push-4.ensures.items
