use Rattle.std.proofs.Common.{◌≡◌, ◌∙◌, ◌+◌, ◌-◌, ◌≤◌, ◌++◌, ap, arith, length, take}
use Rattle.std.proofs.lemmas.List.{length-take-le}
use Rattle.pp_history.specs.SessionValue.{replay}
use Rattle.pp_machine.specs.Olds.{numbered}
use Rattle.pp_rig.proofs.Recordings.{newest_pairs, put_count}
use Rattle.pp_rig.specs.Inner.ActionRecords.{old_values_of}
use Rattle.pp_rig.specs.Rules.{rules}
use Rattle.pp_rig.proofs.recording.record_newest.Goals as goal

pub overflow_sub-result : goal.overflow_sub-result
overflow_sub-result c =
    let (v, at) = c.has_session_value.ensures in
    let (pairs, newest, olds) = c.in-Some.ensures.old_values v at in
    let room : c.args.used ≤ length c.args.olds.now = omega (arith, c.requires.room) in
    let within : c.in-Some.end ≤ length c.put_newest_old_values.new.olds =
    omega (arith, c.in-Some.ensures.at_most, c.requires.room, c.put_newest_old_values.auto.olds) in
    omega (
      arith,
      put_count c.put_newest_old_values.new.olds (take c.args.used c.args.olds.now) c.args.used c.in-Some.end pairs within olds
          (length-take-le c.args.used c.args.olds.now room),
    )

pub returns-clause-olds : goal.returns-clause-olds
returns-clause-olds c = λ v action earlier at same.
    let (pairs, newest, olds) = c.in-Some.ensures.old_values v at in
    let room : c.args.used ≤ length c.args.olds.now = omega (arith, c.requires.room) in
    let within : c.in-Some.end ≤ length c.put_newest_old_values.new.olds =
    omega (arith, c.in-Some.ensures.at_most, c.requires.room, c.put_newest_old_values.auto.olds) in
    let end = put_count c.put_newest_old_values.new.olds (take c.args.used c.args.olds.now) c.args.used c.in-Some.end pairs within
    olds
    (length-take-le c.args.used c.args.olds.now room) in
    let are : pairs ≡ old_values_of (replay rules v.start earlier) action = newest_pairs v.start v.standing earlier action pairs
    newest same in
    let count : c.in-Some.end - c.args.used ≡ length pairs = omega (arith, end) in
    let here : c.args.used + (c.in-Some.end - c.args.used) ≡ c.in-Some.end = omega (arith, end) in
    (count ∙ ap length are, rw here (olds ∙ ap (λ pairs. take c.args.used c.args.olds.now ++ numbered pairs) are))
