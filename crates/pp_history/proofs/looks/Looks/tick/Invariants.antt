use Rattle.std.proofs.Common.{◌+◌}
use Rattle.pp_history.proofs.looks.Looks.tick.Given as goal

abbrev pub ghost-set : goal.ghost-set
ghost-set a = (a.self.now.count + 1, a.self.now.is_started)
