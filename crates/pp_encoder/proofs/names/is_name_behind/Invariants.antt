use Rattle.std.proofs.Common.{◌≡◌, length}
use Rattle.pp_meaning.specs.Names.{has_name_behind}
use Rattle.pp_encoder.proofs.names.is_name_behind.Given as goal

abbrev pub invariant-loop-rest : goal.invariant-loop-rest
invariant-loop-rest l = has_name_behind l.rest ≡ has_name_behind l.text

abbrev pub decreases-loop-rest : goal.decreases-loop-rest
decreases-loop-rest l = length l.rest
