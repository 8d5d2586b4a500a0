use Rattle.std.proofs.Common.{◌≡◌, ℕ, ◌<◌, ◌^◌, length, get_or}
use Rattle.pp_step.specs.Words.{central_after}
use Rattle.pp_step.proofs.package.read_each.Given as goal

abbrev pub invariant-loop-i : goal.invariant-loop-i
invariant-loop-i l = (length l.words ≡ 16)
    × ((k : ℕ) → k < l.i → get_or l.words k 0 ≡ get_or l.central (central_after l.a k) 0)
    × ((k : ℕ) → k < l.i → get_or l.words k 0 < 2 ^ 60)
