use Rattle.std.proofs.Common.{arith}
use Rattle.pp_actions.proofs.{Unwatching.AreWatches-removed, Unwatching.length-with_entries, WatchCodes.words_of-at_most}
use Rattle.pp_rig.proofs.rig.RigReversible.undo.Goals as goal

pub invariant_of-self : goal.invariant_of-self
invariant_of-self c = let at_most = words_of-at_most c.self.inside.central_size in
    grind (arith, length-with_entries, AreWatches-removed _ c.self.inside.watches c.in-Watched.i at_most c.self.invariant.watches)
