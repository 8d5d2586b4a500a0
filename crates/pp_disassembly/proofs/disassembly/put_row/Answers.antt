use Rattle.std.proofs.Common.{arith, subst}
use Rattle.pp_disassembly.specs.Statements.{Adds}
use Rattle.pp_disassembly.proofs.Continuing.{adds-data}
use Rattle.pp_notation.proofs.RowCells.{first_address-is}
use Rattle.pp_disassembly.proofs.disassembly.put_row.Goals as goal

pub returns-clause-adds : goal.returns-clause-adds
returns-clause-adds c =
    let same = c.in_ok-count.ensures.none (omega arith) in
    subst (λ items. Adds items c.push.new.statements.items c.args.row.now c.data_len-count.result) same
    (adds-data c.put_instruction.new.statements.items c.push.new.statements.items c.label.result c.data.result c.args.row.now
    c.data_len-count.result _ c.data_len-count.ensures.some c.data_len-count.ensures.within c.data_len-count.ensures.row
    (first_address-is c.args.row.now _ c.requires.some) c.data.ensures.words c.data.ensures.place c.label.ensures
    c.in_ok-push.ensures.continues)
