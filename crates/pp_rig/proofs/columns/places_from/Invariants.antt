use Rattle.std.proofs.Common.{◌≡◌, All, map, take}
use Rattle.arrayvec.specs.ArrayVec.{array_vec_len}
use Rattle.pp_machine.specs.Numbering.{place_at}
use Rattle.pp_machine.specs.Prelude.{Has}
use Rattle.pp_rig.proofs.columns.places_from.Given as goal

abbrev pub invariant-loop-k : goal.invariant-loop-k
invariant-loop-k l = record {
  count : array_vec_len l.places ≡ l.k;
  places : l.places.items ≡ map place_at (take l.k l.numbers);
  has : All (Has l.machine.setup.central_words) l.places.items;
}
