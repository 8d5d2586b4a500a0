use Rattle.std.proofs.Common.{◌≡◌, ◌≤◌, ◌+◌, ◌-◌, drop, fold, length}
use Rattle.pp_meaning.specs.Meaning.{store}
use Rattle.pp_meaning.proofs.state.put.Given as goal

abbrev pub invariant-loop-word : goal.invariant-loop-word
invariant-loop-word l = record {
  stored : fold store (l.at, l.memory) (drop l.word-index l.words) ≡ fold store (l.first, l.fn.memory) l.words;
  room : l.at + (length l.words - l.word-index) ≤ length l.memory;
  size : length l.memory ≡ length l.fn.memory;
}
