use Rattle.std.proofs.Common.{◌≡◌, ◌++◌, length}
use Rattle.pp_meaning.specs.Texts.{pairs}
use Rattle.pp_meaning.proofs.texts.pairs_of.Given as goal

abbrev pub decreases-codes : goal.decreases-codes
decreases-codes l = length l.rest

abbrev pub invariant-codes : goal.invariant-codes
invariant-codes l = l.words.items ++ pairs l.rest ≡ pairs l.codes
