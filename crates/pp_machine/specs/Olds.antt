-- Old numbers of places by the numbers of these places.
use Rattle.std.specs.Prelude.{List, map}
use Rattle.pp_machine.specs.Numbering.{place_number}
use Rattle.pp_machine.specs.Writes.{Writes}
use Rattle.pp_machine.specs.declared.olds.Old.{Old}
use Rattle.pp_machine.specs.declared.place.Place.{Place}

-- These places by their numbers, each with its old number.
abbrev pub numbered : Writes Place → List Old
numbered pairs = map (λ pair. record { place = place_number pair.0; number = pair.1 }) pairs
