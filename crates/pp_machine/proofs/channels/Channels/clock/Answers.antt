use Rattle.pp_machine.proofs.ChannelRanges.{channels_in_range}
use Rattle.pp_machine.proofs.channels.Channels.clock.Goals as goal

pub returns-clause-channels : goal.returns-clause-channels
returns-clause-channels c = rw (← c.self.view_is) (channels_in_range c.self.inside.channels c.self.inside.clock c.self.invariant.0)
