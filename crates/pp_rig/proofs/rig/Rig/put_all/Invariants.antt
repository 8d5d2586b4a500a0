use Rattle.pp_rig.proofs.Names.{◌≡◌, drop, over, write_list}
use Rattle.pp_rig.proofs.rig.Rig.put_all.Given as goal

abbrev pub invariant-loop-i : goal.invariant-loop-i
invariant-loop-i l = l.self ≡ over l.initial.self (write_list (drop l.i l.list))
