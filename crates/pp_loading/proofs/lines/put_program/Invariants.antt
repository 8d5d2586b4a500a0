use Rattle.std.proofs.Common.{◌≤◌, ◌-◌, length, take}
use Rattle.pp_loading.specs.Inner.Rows.{LoadsWhole}
use Rattle.pp_loading.specs.LoadLines.{cell_list}
use Rattle.pp_loading.proofs.lines.put_program.Given as goal

abbrev pub invariant-loop-done : goal.invariant-loop-done
invariant-loop-done l = record {
  within : l.done ≤ length l.cells;
  loads : LoadsWhole l.text.items (cell_list l.pp (take l.done l.cells));
}

abbrev pub decreases-loop-done : goal.decreases-loop-done
decreases-loop-done l = length l.cells - l.done
