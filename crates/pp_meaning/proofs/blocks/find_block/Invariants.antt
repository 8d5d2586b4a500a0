use Rattle.std.proofs.Common.{◌≡◌, drop}
use Rattle.pp_meaning.specs.Blocks.{block_from}
use Rattle.pp_meaning.proofs.blocks.find_block.Given as goal

abbrev pub invariant-loop-block : goal.invariant-loop-block
invariant-loop-block l = block_from l.index (drop l.block-index l.blocks) l.name ≡ block_from 0 l.blocks l.name
