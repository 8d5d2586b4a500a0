use Rattle.std.proofs.Common.{◌≤◌, ◌-◌, length, take}
use Rattle.pp_disassembly.specs.Statements.{HasAssembled}
use Rattle.pp_disassembly.proofs.disassembly.disassemble.Given as goal

abbrev pub invariant-loop-done : goal.invariant-loop-done
invariant-loop-done l = record {
  within : l.done ≤ length l.cells;
  assembled : HasAssembled l.statements.items l.after (take l.done l.cells);
}

abbrev pub decreases-loop-done : goal.decreases-loop-done
decreases-loop-done l = length l.cells - l.done
