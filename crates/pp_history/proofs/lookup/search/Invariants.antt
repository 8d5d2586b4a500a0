use Rattle.pp_history.proofs.Names.{◌≤◌, length, drop, None, contents_of, halves_in}
use Rattle.pp_history.{proofs.Search.Passed, specs.Search.IsCounted}
use Rattle.pp_history.proofs.lookup.search.Given as goal

abbrev pub invariant-loop-k : goal.invariant-loop-k
invariant-loop-k g l = let L = g.L.Lookups in record {
  passed : Passed L.rules (L.rules.value_at l.machine) l.places (contents_of L.rules.unpacked l.machine l.log).records
      (halves_in l.log).kept l.k (drop l.tail l.log.tails.ring.items);
  few : l.tail ≤ l.k;
  counted : IsCounted (length l.places) l.k None (L.count l.fn.looks) (L.count l.looks);
}
