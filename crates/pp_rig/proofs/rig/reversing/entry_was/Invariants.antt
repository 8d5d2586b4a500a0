use Rattle.pp_rig.proofs.Names.{◌≡◌, ◌+◌, drop, map, lookup, WatchEntry, watch_code, writes_from}
use Rattle.pp_rig.proofs.rig.reversing.entry_was.Given as goal

abbrev pub invariant-loop-k : goal.invariant-loop-k
invariant-loop-k l = lookup (writes_from WatchEntry l.i (map watch_code l.watches)) l.place ≡
    lookup (writes_from WatchEntry (l.i + l.k) (map watch_code (drop l.k l.watches))) l.place
