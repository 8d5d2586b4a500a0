use Rattle.pp_machine.specs.NumberLaws.{number-over}
use Rattle.pp_machine.proofs.laws.writes_set_only_their_places.Goals as goal

pub returns : goal.returns
returns c = number-over
