use Rattle.pp_history.proofs.Names.{◌≡◌, ℕ, ◌+◌, ◌*◌, ◌≤◌, AreActed, drop, length}
use Rattle.pp_history.specs.Recording.{IsRecorded}
use Rattle.pp_history.proofs.recordable.record_all.Given as goal

abbrev pub invariant-loop-left : goal.invariant-loop-left
invariant-loop-left g l = let T = g.T.Reversible in let R = g.T.Recordable in let action = g.T.Repeatable.repeated in let start =
    l.initial in record {
      within : l.left ≤ length l.heads;
      same_length : length l.heads ≡ length start.heads;
      made_length : length l.made ≡ length start.made;
      olds_length : length l.olds ≡ length start.olds;
      turns : l.turns + l.left ≡ l.first + length start.heads;
      at_most : l.end + l.left * R.most ≤ l.used + length start.heads * R.most;
      acted : AreActed T action (drop l.left l.heads) start.machine l.machine start.tails l.tails;
      recorded : (count : ℕ) → count + l.left ≡ length start.heads →
          IsRecorded T R.label_of R.moment_of R.old_of action count start.machine
          l.first start.made l.made l.used l.end start.olds l.olds;
    }

abbrev pub decreases-loop-left : goal.decreases-loop-left
decreases-loop-left g l = l.left
