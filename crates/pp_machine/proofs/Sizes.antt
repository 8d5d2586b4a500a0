-- No central memory has more words than the largest.
use Rattle.std.proofs.Common.{◌≤◌, arith}
use Rattle.pp_machine.specs.{CentralSizes.words_of, declared.central.CentralSize.CentralSize}
use Rattle.pp_machine.specs.declared.central.CentralSize.TheVariants.{K32, K64, K128}

pub most_words : (size : CentralSize) → words_of size ≤ 0o400000
unfolding words_of
most_words K32 = omega arith
most_words K64 = omega arith
most_words K128 = omega arith
