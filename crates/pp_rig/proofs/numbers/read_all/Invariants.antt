use Rattle.std.proofs.Common.{◌≡◌, ◌+◌, ◌<◌, ℕ, slice_index}
use Rattle.pp_machine.specs.Numbering.{place_at}
use Rattle.pp_machine.specs.Prelude.{number}
use Rattle.pp_rig.proofs.numbers.read_all.Given as goal

abbrev pub invariant-loop-k : goal.invariant-loop-k
invariant-loop-k l = (j : ℕ) → j < l.k → slice_index l.into j ≡ number l.machine (place_at (l.first + j))
