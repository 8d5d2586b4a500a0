-- What the call does that performs turns, and writes the processor before each.
use Rattle.std.specs.Prelude.{◌≡◌, ◌≤◌, ◌⊎◌, ℕ, Bool, false, List, length, take, IsSomeAnd, MatchOption, Option}
use Rattle.pp_console.specs.Commands.{State}
use Rattle.pp_history.specs.SessionValue.{Moves}
use Rattle.pp_library.specs.Outcomes.{OnlyReturns}
use Rattle.pp_library.specs.Status.{run_status}
use Rattle.pp_library.specs.declared.console.Console.{Console}
use Rattle.pp_library.specs.declared.status.TheConstants.{CLOSED}
use Rattle.pp_rig.specs.Columns.{EndsAsStep}
use Rattle.pp_rig.specs.Rules.{rules}
use Rattle.pp_rig.specs.Stopping.{after_turns}
use Rattle.pp_rig.specs.TurnRows.{rows_before}
use Rattle.pp_rig.specs.declared.turn_rows.TurnRow.{TurnRow}

pub record ColumnsOuts : Type 0 where
  pub session : Option Console
  pub rows : List TurnRow
  pub turns : ℕ

-- So many turns were performed, as a STEP performs them, with the row before each. There are fewer than were asked for, without a
-- watched change, only if there was no more room.
pub record RecordsRows (most : ℕ) (old new : State) (after : ColumnsOuts) (result : ℕ) : Type 0 where
  pub hit : Bool
  pub moves : Moves rules old new (after_turns after.turns)
  pub ends : EndsAsStep after.turns old.machine hit
  pub rows : take after.turns after.rows ≡ rows_before after.turns old.machine
  pub within : (after.turns ≤ most) × (after.turns ≤ length after.rows)
  pub full : hit ≡ false → (most ≤ after.turns) ⊎ (length after.rows ≤ after.turns)
  pub status : result ≡ run_status hit after.turns most

-- Turns of the handle's session were performed.
abbrev pub Columns : ℕ → ColumnsOuts → ColumnsOuts → ℕ → Type 0
Columns most before after result = MatchOption before.session (OnlyReturns CLOSED before after result)
    (λ old. IsSomeAnd after.session (λ new. RecordsRows most old.session new.session after result))
