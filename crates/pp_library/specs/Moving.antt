-- Going back and forward.
use Rattle.std.specs.Prelude.{◌≡◌, ℕ, ◌<◌, ◌≤◌, ◌⊎◌}
use Rattle.pp_console.specs.Commands.{State, Value}
use Rattle.pp_history.specs.SessionValue.{Moves}
use Rattle.pp_library.specs.declared.status.TheConstants.{DONE, REFUSED}
use Rattle.pp_rig.specs.Rules.{rules}

-- The session moves, or there are too few actions and nothing changes.
abbrev pub MovesOr : ℕ → ℕ → (Value → Value) → State → State → ℕ → Type 0
MovesOr count enough after old new result =
    ((result ≡ DONE) × (count ≤ enough) × Moves rules old new after) ⊎ ((result ≡ REFUSED) × (enough < count) × (new ≡ old))
