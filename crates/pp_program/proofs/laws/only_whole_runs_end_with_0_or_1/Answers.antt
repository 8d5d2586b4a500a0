use Rattle.pp_program.proofs.Status.{ended_run}
use Rattle.pp_program.proofs.laws.only_whole_runs_end_with_0_or_1.Goals as goal

pub returns-clause-to_the_end : goal.returns-clause-to_the_end
returns-clause-to_the_end c = ended_run
