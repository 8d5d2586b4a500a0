-- What the processor in the slot is about to do, in one row of numbers for each turn.
use Rattle.std.specs.Prelude.{ℕ, List, slice_index}
use Rattle.pp_history.specs.Sampling.{samples}
use Rattle.pp_machine.specs.Machine.{Machine, processor}
use Rattle.pp_rig.specs.Turn.{turn}
use Rattle.pp_rig.specs.declared.turn_rows.TurnRow.{TurnRow}
use Rattle.pp_step.specs.Words.{cell_after}

-- The processor in the slot: its registers and its phase, and the words in the cell P and in the one after it.
abbrev pub row_before : Machine → TurnRow
row_before s = let x = processor s s.slot in record {
  processor = s.slot;
  p = x.p;
  a = x.a;
  q = x.q;
  phase = x.phase;
  word = slice_index x.cells x.p;
  m = slice_index x.cells (cell_after x.p 1);
}

-- The rows before each of so many turns, one after another.
abbrev pub rows_before : ℕ → Machine → List TurnRow
rows_before = samples turn row_before
