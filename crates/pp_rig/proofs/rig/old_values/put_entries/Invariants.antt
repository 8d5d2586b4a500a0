use Rattle.pp_machine.specs.Olds.{numbered}
use Rattle.pp_rig.proofs.Names.{◌≡◌, ◌+◌, ◌++◌, drop, map, take, watch_code, WatchEntry, writes_from}
use Rattle.pp_rig.proofs.rig.old_values.put_entries.Given as goal

abbrev pub invariant-loop-k : goal.invariant-loop-k
invariant-loop-k l = record {
  count : l.end ≡ l.used + l.k;
  so_far : take l.end l.olds ++ numbered (writes_from WatchEntry (l.i + l.k) (map watch_code (drop l.k l.watches)))
      ≡ take l.used l.initial.olds ++ numbered (writes_from WatchEntry l.i (map watch_code l.watches));
}
