use Rattle.std.proofs.Common.{◌≡◌, ◌+◌, ◌++◌, drop, take}
use Rattle.pp_origins.specs.Links.{read_links}
use Rattle.pp_origins.proofs.links.put.Given as goal

abbrev pub invariant-loop-k : goal.invariant-loop-k
invariant-loop-k l = record {
  so_far : take (l.used + l.k) l.links ++ read_links l.place l.operation (drop l.k l.reads)
      ≡ take l.used l.initial.links ++ read_links l.place l.operation l.reads;
}
