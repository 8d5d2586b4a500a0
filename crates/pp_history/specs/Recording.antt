-- What is recorded of an action that is performed again and again.
use Rattle.std.specs.Prelude.{◌≡◌, ℕ, zero, suc, ◌+◌, List, [], ◌∷◌, ◌++◌, length, map, take}
use Rattle.pp_history.specs.{declared.reversible.Reversible.Ghosts, Repeating.machine_after}

module _ {M A R P S : Type 0} (rules : Ghosts M A R P S) where
  module _ {X : Type 0} (label_of : M → ℕ) (moment_of : ℕ → ℕ → X) where
    -- the moment of an action on this machine: its label, and how many places it overwrites
    abbrev pub moment_at : A → M → X
    moment_at action s = moment_of (label_of s) (length (rules.old_values s action))

    -- that of each of so many times, one after another
    unfoldable pub moments_after : ℕ → A → M → List X
    moments_after zero action s = []
    moments_after (suc count) action s = moments_after count action s ++ moment_at action (machine_after rules count action s) ∷ []

  module _ {O : Type 0} (old_of : P × ℕ → O) where
    -- the places that an action overwrites on this machine, with their old numbers
    abbrev pub olds_at : A → M → List O
    olds_at action s = map old_of (rules.old_values s action)

    -- those of each of so many times, one after another
    unfoldable pub olds_after : ℕ → A → M → List O
    olds_after zero action s = []
    olds_after (suc count) action s = olds_after count action s ++ olds_at action (machine_after rules count action s)

  -- each of so many times is recorded behind what was there, the first moments and the first places
  pub record IsRecorded {X O : Type 0} (label_of : M → ℕ) (moment_of : ℕ → ℕ → X) (old_of : P × ℕ → O) (action : A) (count : ℕ) (s : M)
      (first : ℕ) (made made' : List X) (used used' : ℕ) (olds olds' : List O) : Type 0 where
    pub moments : take (first + count) made' ≡ take first made ++ moments_after label_of moment_of count action s
    pub overwritten : take used' olds' ≡ take used olds ++ olds_after old_of count action s
