use Rattle.std.proofs.Common.{arith}
use Rattle.pp_machine.proofs.ChannelMasks.{closed, opened}
use Rattle.pp_machine.specs.ChannelNumbers.{state_number}
use Rattle.pp_machine.proofs.channel_mask.mask_after.Goals as goal

pub returns-in-Inactive-default : goal.returns-in-Inactive-default
returns-in-Inactive-default c states old has = opened c.args.active c.args.c states c.requires has (state_number c.args.new)

pub returns-in_default-Inactive : goal.returns-in_default-Inactive
returns-in_default-Inactive c states old has =
    rw c.in_default-Inactive.is-1 (closed c.args.active c.args.c states c.requires has (omega (arith, c.ranges.active.fits)))
