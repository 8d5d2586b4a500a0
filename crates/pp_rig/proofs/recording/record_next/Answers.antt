use Rattle.std.proofs.Common.{◌≡◌, arith, refl}
use Rattle.pp_history.specs.SessionLaws.{machine_at}
use Rattle.pp_history.specs.SessionValue.{after_forward}
use Rattle.pp_rig.proofs.Recordings.{forward_machine, forward_standing}
use Rattle.pp_rig.specs.Recording.{processor_of}
use Rattle.pp_rig.specs.Rules.{rules as rig}
use Rattle.pp_rig.proofs.recording.record_next.Goals as goal

pub returns-clause-machine : goal.returns-clause-machine
returns-clause-machine c = λ action later same.
    let (v, at) = c.has_session_value.ensures in
    forward_machine c.args.session.now c.forward.new.self v action later at (c.in-Ok.ensures.moves v at) same

pub returns-clause-moment : goal.returns-clause-moment
returns-clause-moment c = λ action later same.
    let (v, at) = c.has_session_value.ensures in
    let s = c.args.session.now.machine in
    let moved = c.in-Ok.ensures.moves v at in
    let standing = forward_standing c.args.session.now v action later at same in
    let slot : s.slot ≡ c.slot-slot.result = grind (arith, c.machine.ensures.value, c.slot-slot.ensures.value) in
    let processor : c.newest_processor.result ≡ processor_of s action =
    c.newest_processor.ensures (after_forward v 1) action v.standing s moved standing slot in
    let (count, olds) = rw (← machine_at rig c.args.session.now v at) at
    (c.record_newest.ensures.olds (after_forward v 1) action v.standing moved standing) in
    rw (processor, count) refl

pub returns-clause-olds : goal.returns-clause-olds
returns-clause-olds c = λ action later same.
    let (v, at) = c.has_session_value.ensures in
    let standing = forward_standing c.args.session.now v action later at same in
    let (count, olds) = rw (← machine_at rig c.args.session.now v at) at
    (c.record_newest.ensures.olds (after_forward v 1) action v.standing (c.in-Ok.ensures.moves v at) standing) in olds
