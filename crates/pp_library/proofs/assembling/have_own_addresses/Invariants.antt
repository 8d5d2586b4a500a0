use Rattle.std.proofs.Common.{◌≢◌, ◌<◌, ℕ, slice_index_or}
use Rattle.pp_notation.specs.declared.program.Cell.{Cell}
use Rattle.pp_library.proofs.assembling.have_own_addresses.Given as goal

-- The addresses before k differ from each other.
abbrev pub invariant-loop-k : goal.invariant-loop-k
invariant-loop-k l = (i j : ℕ) (d : Cell) → i < j → j < l.k →
    (slice_index_or l.cells i d).address ≢ (slice_index_or l.cells j d).address
