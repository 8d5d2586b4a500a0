-- The distance of a relative jump to the target that it has.
use Rattle.std.proofs.Common.{◌≡◌, ℕ, ◌<◌, Some, arith}
use Rattle.std.proofs.lemmas.Bool.Decides.{nat_tests}
use Rattle.pp_arith.specs.Arith.{relative}
use Rattle.pp_notation.specs.InstructionWords.{distance}

pub distance-relative : (here d : ℕ) → here < 0o10000 → d < 0o77 → distance here (relative here d) ≡ Some d
distance-relative here d h k = grind (arith, nat_tests)

pub distance-here : (here : ℕ) → here < 0o10000 → distance here here ≡ Some 0
distance-here here h = grind (arith, nat_tests)

pub ruleset distances = (distance-relative, distance-here)
