-- Looks at the numbers of chosen places after each of many turns: one column for each place, one row for each turn.
use Rattle.std.specs.Prelude.{◌≡◌, ℕ, zero, suc, Bool, List, [], ◌++◌, is_some, map}
use Rattle.pp_machine.specs.Machine.{Machine, number}
use Rattle.pp_machine.specs.declared.place.Place.{Place}
use Rattle.pp_rig.specs.Stopping.{stopped}
use Rattle.pp_rig.specs.Turn.{turn}

-- The numbers at these places, in their order.
abbrev pub row : Machine → List Place → List ℕ
row s places = map (number s) places

-- The rows after each of so many turns, one after another.
unfoldable pub rows_of : ℕ → Machine → List Place → List ℕ
rows_of zero s places = []
rows_of (suc turns) s places = row (turn s) places ++ rows_of turns (turn s) places

-- A run of so many turns ends as a STEP does: no turn before the last changed a watched number, and this is whether the last one did.
abbrev pub EndsAsStep : ℕ → Machine → Bool → Type 0
EndsAsStep turns s hit = ((stopped turns s).turns ≡ turns) × (is_some (stopped turns s).hit ≡ hit)
