-- Rows of turns, one after another.
use Rattle.std.proofs.Common.{◌≡◌, ◌+◌, ℕ, [], ◌∷◌, ◌++◌, refl}
use Rattle.pp_actions.specs.declared.action.Action.TheVariants.{Turn}
use Rattle.pp_history.proofs.Samples.{samples_add}
use Rattle.pp_history.specs.Sampling.{samples}
use Rattle.pp_machine.specs.Machine.{Machine}
use Rattle.pp_rig.specs.Rules.{rules}
use Rattle.pp_rig.specs.Stopping.{turned}
use Rattle.pp_rig.specs.TurnRows.{row_before, rows_before}

-- more turns behind others
pub rows_add : (turns more : ℕ) (s : Machine) →
    rows_before (turns + more) s ≡ rows_before turns s ++ rows_before more (turned turns s)
rows_add turns more s = samples_add rules Turn row_before turns more s

-- one turn alone
pub rows_one : (s : Machine) → rows_before 1 s ≡ row_before s ∷ []
unfolding samples
rows_one s = refl
