use Rattle.std.proofs.Common.{◌∙◌, ap, length}
use Rattle.pp_history.proofs.Runs.{ahead_is}
use Rattle.pp_history.proofs.session.Session.ahead.Goals as goal

pub returns-clause-value : goal.returns-clause-value
returns-clause-value g c = rw (← c.self.view_is) (ahead_is g.T.Reversible _ _ c.self.invariant)

pub returns-clause-at : goal.returns-clause-at
returns-clause-at g c = rw (← c.self.view_is) (λ v at. ahead_is g.T.Reversible _ _ c.self.invariant ∙ ap length at.ahead)
