use Rattle.std.proofs.Common.{◌≡◌, take}
use Rattle.pp_meaning.specs.Literals.{words_of_literals}
use Rattle.pp_meaning.proofs.literals.words_in.Given as goal

abbrev pub invariant-loop-literal : goal.invariant-loop-literal
invariant-loop-literal l = l.words.items ≡ words_of_literals (take l.literal-index l.literals)
