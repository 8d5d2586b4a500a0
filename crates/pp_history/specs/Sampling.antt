-- What is written down of a machine before each of many steps.
use Rattle.std.specs.Prelude.{ℕ, zero, suc, List, [], ◌∷◌}

-- the samples before each of so many steps, one after another
unfoldable pub samples : {M X : Type 0} → (M → M) → (M → X) → ℕ → M → List X
samples step sample_of zero s = []
samples step sample_of (suc count) s = sample_of s ∷ samples step sample_of count (step s)
