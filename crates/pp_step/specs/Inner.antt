-- For the contracts of inner functions only: no definition of a step, and no contract of a public call, needs these.
use Rattle.std.specs.Prelude.{ℕ, ◌/◌, ◌%◌, ◌≤◌, List, [], ◌∷◌, ◌+◌, ◌≡◌, length, map, slice_index, slice_set}
use Rattle.std.specs.List.{range_with_len}
use Rattle.pp_machine.specs.{Frame.frame_word, Writes.Writes, declared.pp.Pp.Pp}
use Rattle.pp_step.specs.{Codes.number_of, Pairs.pairs, Pairs.Fits, View.PpView, View.PpPlace, View.over, View.old_values}
use Rattle.pp_step.specs.{Words.cell_after, Words.central_after, declared.code.Op.Op, declared.record.StepRecord.StepRecord}

-- a processor has these numbers
abbrev pub HasRegisters : Pp → ℕ → ℕ → ℕ → ℕ → Type 0
HasRegisters pp p a q phase = (pp.p ≡ p) × (pp.a ≡ a) × (pp.q ≡ q) × (pp.phase ≡ phase)

-- a record that has these old values, and fits a machine of any size
abbrev pub Records : StepRecord → Writes PpPlace → Type 0
Records back old_values = (pairs back ≡ old_values) × ((size : ℕ) → Fits size back)

-- a step that writes a list, and its undo record, which has the old values and fits
pub record Performs (old new : PpView) (back : StepRecord) (writes : Writes PpPlace) : Type 0 where
  pub step : new ≡ over old writes
  pub old_values : pairs back ≡ old_values old writes
  pub fits : Fits (length new.central) back

-- these are the fields of an instruction word
abbrev pub AreFields : Op → ℕ → Type 0
AreFields op word = (number_of op.code ≡ word / 0o100) × (op.d ≡ word % 0o100) × (op.d ≤ 0o77)

-- the numbers of the five cells from an address on
abbrev pub five_from : ℕ → List ℕ → List ℕ
five_from address cells = map (λ i. slice_index cells (cell_after address i)) (range_with_len 0 5)

-- the cells with five numbers written from an address on
abbrev pub five_over : ℕ → List ℕ → List ℕ → List ℕ
five_over address parts cells =
    slice_set (slice_set (slice_set (slice_set (slice_set cells
    (cell_after address 4) (slice_index parts 4))
    (cell_after address 3) (slice_index parts 3))
    (cell_after address 2) (slice_index parts 2))
    (cell_after address 1) (slice_index parts 1))
    (cell_after address 0) (slice_index parts 0)

-- central memory with the numbers of a list written from i words behind a on
abbrev pub stored_over : ℕ → ℕ → List ℕ → List ℕ → List ℕ
stored_over a i words [] = words
stored_over a i words (w ∷ ws) = slice_set (stored_over a (i + 1) words ws) (central_after a i) w

-- the new frame word i of an exchange at a
abbrev pub loaded_word : ℕ → List ℕ → ℕ → ℕ
loaded_word a words i = frame_word i (slice_index words (central_after a i))
