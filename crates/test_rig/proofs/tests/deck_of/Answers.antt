use Rattle.std.proofs.Common.{arith, ◌<◌}
use Rattle.std.proofs.lemmas.List.Elements.{All-replicate}
use Rattle.pp_machine.specs.ReaderNumbers.{IsCard}
use Rattle.test_rig.proofs.tests.deck_of.Goals as goal

pub returns : goal.returns
returns c = rw c.loop-card.invariant (All-replicate IsCard _ _ (All-replicate (λ x. x < 4096) 80 c.args.column (omega arith)))
