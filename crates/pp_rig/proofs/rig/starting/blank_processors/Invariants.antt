use Rattle.pp_rig.proofs.Names.{◌≡◌, replicate, blank_processor}
use Rattle.pp_rig.proofs.rig.starting.blank_processors.Given as goal

abbrev pub invariant-loop-i : goal.invariant-loop-i
invariant-loop-i l = l.processors.items ≡ replicate l._i blank_processor
