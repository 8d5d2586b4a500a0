use Rattle.pp_rig.proofs.Names.{arith}
use Rattle.pp_rig.proofs.Deadstart.{AreSettings-deadstart, deadstarts, short-old}
use Rattle.pp_rig.proofs.rig.Rig.deadstart.Goals as goal

pub overwrite-old_values-requires : goal.overwrite-old_values-requires
overwrite-old_values-requires c =
    let panel = rw c.in-Some.is at c.self.invariant.setup.panel in
    let list = AreSettings-deadstart _ c.in-Some.panel panel.small in
    (grind arith, (grind arith, rw (c.as_slice.ensures.value, c.deadstart_settings-list.ensures.list) list))

pub numbers_of-requires-clause-small : goal.numbers_of-requires-clause-small
numbers_of-requires-clause-small c =
    grind (arith, deadstarts, short-old c.overwrite-old_values.new.self.setup.central_words c.as_slice-2.result.now)
