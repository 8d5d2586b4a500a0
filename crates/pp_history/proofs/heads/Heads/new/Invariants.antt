use Rattle.pp_history.proofs.Names.{◌≡◌, length, AllByRecursion}
use Rattle.pp_history.proofs.heads.Heads.new.Given as goal

abbrev pub invariant-loop-block : goal.invariant-loop-block
invariant-loop-block g l = record {
  whole : AllByRecursion (λ block. length block.items ≡ 256) l.others.items;
  many : length l.others.items ≡ l._block;
  capacity : l.others.capacity ≡ l.count;
}
