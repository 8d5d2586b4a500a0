use Rattle.std.proofs.Common.{◌≡◌, drop, true}
use Rattle.pp_meaning.specs.Blocks.{lie_behind}
use Rattle.pp_meaning.proofs.blocks.are_behind.Given as goal

abbrev pub invariant-loop-block : goal.invariant-loop-block
invariant-loop-block l = lie_behind l.cell (drop l.block-index l.blocks) l.rest ≡ true → lie_behind l.first l.blocks l.counters
    ≡ true
