use Rattle.pp_rig.proofs.Names.{◌≡◌, drop, whole_record, before, unpacked, first_change, watches_of}
use Rattle.pp_rig.proofs.stopping.first_changed.Given as goal

abbrev pub invariant-loop-i : goal.invariant-loop-i
invariant-loop-i l = let old = before (whole_record unpacked l.back) l.machine in
    first_change old l.machine (watches_of l.machine) ≡ first_change old l.machine (drop l.i (watches_of l.machine))
