use Rattle.std.proofs.Common.{All, take}
use Rattle.pp_search.proofs.Listed.{AreListed}
use Rattle.pp_search.proofs.plan.Looked.add_all.Given as goal

abbrev pub invariant-loop-alternative : goal.invariant-loop-alternative
invariant-loop-alternative l = All (AreListed l.self) (take l.alternative-index l.alternatives)
