use Rattle.std.proofs.Common.{arith}
use Rattle.std.proofs.lemmas.Bool.Decides.{nat_tests}
use Rattle.pp_machine.proofs.ChannelMasks.{apart}
use Rattle.pp_machine.proofs.channels.Channels.is_one_active.Goals as goal

pub returns : goal.returns
returns c off = rw (← c.self.view_is) (apart c.self.inside.active c.args.mask _ c.self.invariant.1 (grind (arith, nat_tests)))
