use Rattle.std.proofs.Common.{arith}
use Rattle.pp_disassembly.proofs.Continuing.{adds-one, adds-some}
use Rattle.pp_notation.proofs.RowCells.{pair-length, pair-row}
use Rattle.pp_disassembly.proofs.disassembly.put_instruction.Goals as goal

pub returns-in_ok-push-in-Single-clause-adds : goal.returns-in_ok-push-in-Single-clause-adds
returns-in_ok-push-in-Single-clause-adds c = λ _. adds-one c.args.statements.now.items c.push.new.statements.items c.label.result
    c.in-Some.operation c.args.row.now _ c.requires.cells c.requires.some c.in-Some.ensures.words c.in-Some.ensures.place
    c.label.ensures c.in_ok-push-in-Single.ensures.continues

pub returns-in_ok-put_double-in-First-clause-adds : goal.returns-in_ok-put_double-in-First-clause-adds
returns-in_ok-put_double-in-First-clause-adds c = λ _. adds-some c.args.statements.now.items c.put_double.new.statements.items
    c.args.row.now 2 (omega arith) (pair-length c.args.row.now c.in-Some-second_word.second c.in-Some-second_word.ensures)
    (pair-row c.args.row.now c.in-Some-second_word.second c.requires.cells c.in-Some-second_word.ensures)
    c.in_ok-put_double-in-First.ensures
