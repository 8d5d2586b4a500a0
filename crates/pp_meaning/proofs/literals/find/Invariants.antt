use Rattle.std.proofs.Common.{◌≡◌, drop}
use Rattle.pp_meaning.specs.Literals.{index_from}
use Rattle.pp_meaning.proofs.literals.find.Given as goal

abbrev pub invariant-loop-literal : goal.invariant-loop-literal
invariant-loop-literal l = index_from l.index (drop l.literal-index l.literals) l.words ≡ index_from 0 l.literals l.words
