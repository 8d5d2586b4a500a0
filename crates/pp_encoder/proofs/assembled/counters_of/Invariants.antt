use Rattle.std.proofs.Common.{◌≡◌, ◌∷◌, map, take}
use Rattle.pp_meaning.specs.Standing.{from_cell}
use Rattle.pp_encoder.proofs.assembled.counters_of.Given as goal

abbrev pub invariant-loop-block : goal.invariant-loop-block
invariant-loop-block l = l.counters.items ≡ from_cell 0 ∷ map (λ block. from_cell block.base) (take l.block-index l.blocks)
