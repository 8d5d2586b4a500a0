use Rattle.pp_history.proofs.Names.{◌≡◌, ℕ, ◌+◌, ◌≤◌, ◌++◌, AreActed, drop, length, take}
use Rattle.pp_history.proofs.Samples.{taken_before}
use Rattle.pp_history.proofs.sampled.sample_all.Given as goal

abbrev pub invariant-loop-left : goal.invariant-loop-left
invariant-loop-left g l = let T = g.T.Reversible in let action = g.T.Repeatable.repeated in let start = l.initial in record {
  within : l.left ≤ length l.heads;
  same_length : length l.heads ≡ length start.heads;
  taken_length : length l.taken ≡ length start.taken;
  next : l.next + l.left ≡ l.first + length start.heads;
  acted : AreActed T action (drop l.left l.heads) start.machine l.machine start.tails l.tails;
  samples : (count : ℕ) → count + l.left ≡ length start.heads → take (l.first + count) l.taken
      ≡ take l.first start.taken ++ taken_before T action g.T.Sampled.sample_of count start.machine;
}

abbrev pub decreases-loop-left : goal.decreases-loop-left
decreases-loop-left g l = l.left
