use Rattle.std.proofs.Common.{◌≡◌, take}
use Rattle.pp_assembler.proofs.meaning.words_of.Given as goal

abbrev pub invariant-loop-word : goal.invariant-loop-word
invariant-loop-word l = l.small.items ≡ take l.word-index l.words
