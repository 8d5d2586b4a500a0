use Rattle.std.proofs.Common.{◌≡◌, ◌++◌, ◌-◌, ◌/◌, length}
use Rattle.pp_meaning.specs.Bits.{words_from}
use Rattle.pp_meaning.proofs.bits.words_in.Given as goal

abbrev pub invariant-loop-word : goal.invariant-loop-word
invariant-loop-word l = l.words.items ++ words_from (length l.bits / 12 - l._word) l.rest ≡ words_from (length l.bits / 12) l.bits
