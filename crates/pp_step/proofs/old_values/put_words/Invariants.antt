use Rattle.std.proofs.Common.{◌≡◌, ◌+◌, ◌≤◌, ◌++◌, drop, take}
use Rattle.pp_machine.specs.Olds.{numbered}
use Rattle.pp_machine.specs.Prelude.{renamed, words_of}
use Rattle.pp_step.specs.{Exchange.word_pairs, View.pp_place}
use Rattle.pp_step.proofs.old_values.put_words.Given as goal

abbrev pub invariant-loop-i : goal.invariant-loop-i
invariant-loop-i l = record {
  count : l.end ≤ l.used + l.i;
  so_far : take l.end l.olds ++ numbered (renamed (pp_place l.pp) (word_pairs (words_of l.size) l.first l.i (drop l.i l.words)))
      ≡ take l.used l.initial.olds ++ numbered (renamed (pp_place l.pp) (word_pairs (words_of l.size) l.first 0 l.words));
}
