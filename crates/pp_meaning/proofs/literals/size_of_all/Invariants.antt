use Rattle.std.proofs.Common.{◌≡◌, ◌+◌, drop, length}
use Rattle.pp_meaning.specs.Literals.{words_of_literals}
use Rattle.pp_meaning.proofs.literals.size_of_all.Given as goal

abbrev pub invariant-loop-literal : goal.invariant-loop-literal
invariant-loop-literal l = l.size + length (words_of_literals (drop l.literal-index l.literals)) ≡ length
    (words_of_literals l.literals)
