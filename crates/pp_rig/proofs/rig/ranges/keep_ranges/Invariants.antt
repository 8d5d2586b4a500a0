use Rattle.pp_rig.proofs.Names.{ℕ, ◌<◌, get_or, no_processor, IsProcessor}
use Rattle.pp_rig.proofs.rig.ranges.keep_ranges.Given as goal

abbrev pub invariant-loop-processor : goal.invariant-loop-processor
invariant-loop-processor l = (k : ℕ) → k < l.processor-index → IsProcessor (get_or l.processors k no_processor)
