use Rattle.pp_history.specs.SessionValue.{after_act}
use Rattle.pp_actions.specs.declared.action.Action.TheVariants.{Turn}
use Rattle.pp_rig.proofs.stopping.newest_change.Goals as goal

pub returns : goal.returns
returns c = λ v at. cc (c.first_changed.ensures, c.machine.ensures.value, c.in_ok-back.ensures.leads_back (after_act v Turn) at)
