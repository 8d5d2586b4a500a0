use Rattle.std.proofs.Common.{◌≡◌, replicate}
use Rattle.test_rig.proofs.tests.deck_of.Given as goal

abbrev pub invariant-loop-card : goal.invariant-loop-card
invariant-loop-card l = l.deck.items ≡ replicate l._card (replicate 80 l.column)
