use Rattle.std.proofs.Common.{◌≡◌, ◌+◌, ◌-◌, ◌≤◌, ◌++◌, take}
use Rattle.std.specs.List.{range_with_len}
use Rattle.pp_origins.specs.{Links.links_of, Rows.word_origins}
use Rattle.pp_origins.proofs.rows.put_words.Given as goal

abbrev pub invariant-loop-i : goal.invariant-loop-i
invariant-loop-i l = record {
  count : l.end ≤ l.used + l.i;
  so_far : take l.end l.links ++ links_of (word_origins l.c (range_with_len l.i (16 - l.i)))
      ≡ take l.used l.initial.links ++ links_of (word_origins l.c (range_with_len 0 16));
}
