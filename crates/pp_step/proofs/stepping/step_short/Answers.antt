use Rattle.std.proofs.Common.{rules}
use Rattle.pp_step.proofs.Store.{leads_back}
use Rattle.pp_step.specs.Step.{pp_pairs, pp_writes, FitsPp}
use Rattle.pp_step.proofs.stepping.step_short.Goals as goal

pub returns-then-is_waiting-clause-step : goal.returns-then-is_waiting-clause-step
unfolding pp_pairs pp_writes FitsPp
returns-then-is_waiting-clause-step c =
    let none = c.is_waiting.ensures c.if-is_waiting.true c.args.memory.now c.args.central.now c.args.frame.now in
    search (rules, leads_back, none)

pub returns-else-is_waiting-clause-step : goal.returns-else-is_waiting-clause-step
unfolding pp_pairs pp_writes FitsPp
returns-else-is_waiting-clause-step c = search (rules, leads_back, c.block.ensures c.args.frame.now)

pub returns-in-Nothing-clause-step : goal.returns-in-Nothing-clause-step
unfolding pp_pairs pp_writes FitsPp
returns-in-Nothing-clause-step c = search (rules, leads_back, c.effect.ensures.step c.args.frame.now c.in-Nothing.is)
