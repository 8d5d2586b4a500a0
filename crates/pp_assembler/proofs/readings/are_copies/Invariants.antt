use Rattle.std.proofs.Common.{ℕ, ◌<◌}
use Rattle.pp_assembler.specs.Decks.{IsCopied}
use Rattle.pp_assembler.proofs.readings.are_copies.Given as goal

abbrev pub invariant-loop-at : goal.invariant-loop-at
invariant-loop-at l = (at : ℕ) → at < l.at → IsCopied l.own l.copies at
