use Rattle.std.proofs.Common.{◌∙◌}
use Rattle.pp_history.proofs.Runs.{kept_is}
use Rattle.pp_history.proofs.session.Session.kept.Goals as goal

pub returns-clause-value : goal.returns-clause-value
returns-clause-value g c = rw (← c.self.view_is) (kept_is g.T.Reversible _ _ c.self.invariant)

pub returns-clause-at : goal.returns-clause-at
returns-clause-at g c = rw (← c.self.view_is) (λ v at. kept_is g.T.Reversible _ _ c.self.invariant ∙ at.kept)
