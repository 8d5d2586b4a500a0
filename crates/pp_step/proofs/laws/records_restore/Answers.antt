use Rattle.pp_machine.specs.NumberLaws.{number-over}
use Rattle.pp_step.specs.PpPlaces.{HasAll-pp}
use Rattle.pp_step.proofs.laws.records_restore.Goals as goal

pub returns : goal.returns
returns c = λ m n back place shaped small fits.
    number-over m.setup.central_words m _ place shaped (HasAll-pp m.setup.central_words n small back fits)
