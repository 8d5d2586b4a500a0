use Rattle.std.proofs.Common.{◌<◌, arith}
use Rattle.pp_notation.proofs.Programs.{IsBelow-push, IsBelow-skip}
use Rattle.pp_notation.proofs.slots.cells_of.Goals as goal
use Rattle.pp_notation.proofs.slots.cells_of.Goals.{in-Some+then-slot-ne0+in_ok-push, in-Some+else-slot-ne0, in_default}

pub loop-address-preserved : goal.loop-address-preserved
loop-address-preserved c =
    let address = c.loop-address.address in let cells = c.loop-address.cells.items in
    let within : address < 0o10000 = c.loop-address-test.true in
    let skipped = IsBelow-skip cells address c.loop-address.invariant in
    elim c.match-get.branch [
      | in-Some+then-slot-ne0+in_ok-push w ↦
          let bound : w.cell_of.result.address < 0o10000 = omega (arith, within, w.cell_of.ensures.address) in
          rw (w.cells-is, w.in_ok-push.ensures.items) (IsBelow-push cells w.cell_of.result address c.loop-address.invariant
          w.cell_of.ensures.address (bound, w.cell_of.ensures.word))
      | in-Some+else-slot-ne0 w ↦ rw w.cells-is skipped
      | in_default w ↦ rw w.cells-is skipped
    ]
