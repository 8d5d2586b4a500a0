use Rattle.std.proofs.Common.{true}
use Rattle.pp_history.proofs.looks.Looks.start.Given as goal

abbrev pub ghost-set : goal.ghost-set
ghost-set a = (a.self.now.count, true)
