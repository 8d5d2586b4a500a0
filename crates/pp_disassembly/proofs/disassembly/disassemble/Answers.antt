use Rattle.std.proofs.Common.{◌≡◌, Some, subst, sym}
use Rattle.pp_disassembly.specs.Statements.{addressed, assembled, cells_of}
use Rattle.pp_disassembly.proofs.Continuing.{all-added, end-ends}
use Rattle.pp_disassembly.proofs.disassembly.disassemble.Goals as goal

pub returns : goal.returns
returns c = subst (λ items. cells_of (assembled items) ≡ Some (addressed c.args.cells.now)) (sym c.in_ok-push-2.ensures.items)
    (end-ends c.loop-done.statements.items c.loop-done.after c.args.cells.now c.first_entry.result
    (all-added c.loop-done.statements.items c.loop-done.after c.loop-done.done c.args.cells.now c.loop-done-test.false
    c.loop-done.invariant.assembled))
