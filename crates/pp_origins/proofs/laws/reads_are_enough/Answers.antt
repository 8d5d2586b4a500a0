use Rattle.pp_origins.proofs.Agreement.{others_stay, reads_are_enough}
use Rattle.pp_origins.proofs.laws.reads_are_enough.Goals as goal

pub returns-clause-enough : goal.returns-clause-enough
returns-clause-enough c = reads_are_enough

pub returns-clause-others : goal.returns-clause-others
returns-clause-others c = others_stay
