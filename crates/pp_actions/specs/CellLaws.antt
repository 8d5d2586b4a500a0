-- Lists of consecutive cells.
use Rattle.std.proofs.Common.{arith, suc, ℕ, ◌+◌, ◌<◌, ◌≤◌, List, [], ◌∷◌, All}
use Rattle.pp_actions.specs.WriteLists.{cell_writes}
use Rattle.pp_machine.specs.Ranges.{twelve_bits}
use Rattle.pp_actions.specs.Settings.{AreSettings}

pub AreSettings-cell_writes : (size n a : ℕ) (vs : List ℕ) → n < 10 →
    All (λ v. v ≤ twelve_bits) vs → AreSettings size (cell_writes n a vs)
AreSettings-cell_writes size n a [] h small = tt
AreSettings-cell_writes size n a (v ∷ vs) h small = (
  record { has = (h, omega arith); settable = tt; in_range = small 0 v (omega arith) },
  AreSettings-cell_writes size n (a + 1) vs h (λ k d l. small (suc k) d (omega arith)),
)
