use Rattle.std.proofs.Common.{◌≡◌, drop}
use Rattle.pp_machine.specs.Prelude.{write_list, lookup}
use Rattle.pp_machine.proofs.place.first_write.Given as goal

abbrev pub invariant-loop-pair : goal.invariant-loop-pair
invariant-loop-pair l = lookup (write_list (drop l.pair-index l.pairs)) l.place ≡ lookup (write_list l.pairs) l.place
