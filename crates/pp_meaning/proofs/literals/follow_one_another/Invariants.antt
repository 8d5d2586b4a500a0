use Rattle.std.proofs.Common.{◌≡◌, drop}
use Rattle.pp_meaning.specs.Literals.{are_placed}
use Rattle.pp_meaning.proofs.literals.follow_one_another.Given as goal

abbrev pub invariant-loop-literal : goal.invariant-loop-literal
invariant-loop-literal l = are_placed l.address (drop l.literal-index l.literals) ≡ are_placed l.first l.literals
