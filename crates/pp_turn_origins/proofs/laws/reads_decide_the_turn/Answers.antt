use Rattle.pp_turn_origins.proofs.TurnOrigins.{part_decided, turn_decided}
use Rattle.pp_turn_origins.proofs.laws.reads_decide_the_turn.Goals as goal

pub returns-clause-part : goal.returns-clause-part
returns-clause-part c = λ s t p origin ok ok2 setup deck same found. part_decided s t p origin ok ok2 setup deck same found

pub returns-clause-turn : goal.returns-clause-turn
returns-clause-turn c = λ s t p origin ok ok2 setup deck same found own reads.
    turn_decided s t p origin ok ok2 setup deck same found own reads
