use Rattle.pp_rig.proofs.Runs.{turns_are_acts}
use Rattle.pp_search.proofs.search.perform_turns.Goals as goal

pub returns-clause-at : goal.returns-clause-at
returns-clause-at c = λ v at. rw turns_are_acts (c.repeat.ensures.at v at)
