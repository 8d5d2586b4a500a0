use Rattle.std.proofs.Common.{length}
use Rattle.pp_host.proofs.memory.+stored.Given as goal

abbrev pub decreases-stored : goal.decreases-stored
decreases-stored l = length l.files.now
