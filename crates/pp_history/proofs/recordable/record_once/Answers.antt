use Rattle.pp_history.proofs.Names.{◌≡◌, ◌∙◌, ◌-◌, ◌≤◌, ◌++◌, ap, arith, length, refl, take, whole_record}
use Rattle.pp_history.proofs.{Recordings.is_there, Recordings.kept_first, Recordings.put_count, Recordings.some_there, Runs.acted}
use Rattle.std.specs.Prelude.{map}
use Rattle.pp_history.proofs.recordable.record_once.Goals as goal

pub unwrap-back-requires : goal.unwrap-back-requires
unwrap-back-requires g c =
    let T = g.T.Reversible in
    let whole = whole_record T.unpacked in
    let acted = rw c.repeated.ensures at (acted T {new = c.perform.new.self} c.perform.ensures.next c.perform.ensures.kept) in
    let kept = kept_first T whole c.undo_record.result c.args.machine.now c.perform.new.self g.T.Repeatable.repeated
    c.perform.new.head c.args.tails.now
    c.perform.new.tails c.requires.room acted (c.undo_record.ensures T.unpacked) in
    some_there whole c.undo_record.result acted.back kept

pub put_old_values-end-requires-clause-fits : goal.put_old_values-end-requires-clause-fits
put_old_values-end-requires-clause-fits g c =
    let T = g.T.Reversible in
    let whole = whole_record T.unpacked in
    let acted = rw c.repeated.ensures at (acted T {new = c.perform.new.self} c.perform.ensures.next c.perform.ensures.kept) in
    let kept = kept_first T whole c.undo_record.result c.args.machine.now c.perform.new.self g.T.Repeatable.repeated
    c.perform.new.head c.args.tails.now
    c.perform.new.tails c.requires.room acted (c.undo_record.ensures T.unpacked) in
    let is = is_there whole c.undo_record.result c.unwrap-back.result acted.back kept c.unwrap-back.ensures in
    (c.perform.new.self, rw is acted.fits)

pub overflow_sub-end : goal.overflow_sub-end
overflow_sub-end g c =
    let used : c.args.used ≤ length c.args.olds.now = omega (arith, c.requires.olds_room) in
    let within : c.put_old_values-end.result ≤ length c.put_old_values-end.new.olds =
    omega (arith, c.put_old_values-end.ensures.at_most, c.requires.olds_room, c.put_old_values-end.auto.olds) in
    omega (
      arith,
      put_count g.T.Recordable.old_of c.args.olds.now c.put_old_values-end.new.olds c.args.used
          c.put_old_values-end.result _ used within c.put_old_values-end.ensures.items,
    )

pub returns-clause-items : goal.returns-clause-items
returns-clause-items g c =
    let T = g.T.Reversible in
    let whole = whole_record T.unpacked in
    let acted = rw c.repeated.ensures at (acted T {new = c.perform.new.self} c.perform.ensures.next c.perform.ensures.kept) in
    let kept = kept_first T whole c.undo_record.result c.args.machine.now c.perform.new.self g.T.Repeatable.repeated
    c.perform.new.head c.args.tails.now
    c.perform.new.tails c.requires.room acted (c.undo_record.ensures T.unpacked) in
    let is = is_there whole c.undo_record.result c.unwrap-back.result acted.back kept c.unwrap-back.ensures in
    c.put_old_values-end.ensures.items
    ∙ ap (λ pairs. take c.args.used c.args.olds.now ++ map g.T.Recordable.old_of pairs) (ap T.record_pairs is ∙ acted.old_values)

pub returns-clause-moment : goal.returns-clause-moment
returns-clause-moment g c =
    let T = g.T.Reversible in
    let whole = whole_record T.unpacked in
    let acted = rw c.repeated.ensures at (acted T {new = c.perform.new.self} c.perform.ensures.next c.perform.ensures.kept) in
    let kept = kept_first T whole c.undo_record.result c.args.machine.now c.perform.new.self g.T.Repeatable.repeated
    c.perform.new.head c.args.tails.now
    c.perform.new.tails c.requires.room acted (c.undo_record.ensures T.unpacked) in
    let is = is_there whole c.undo_record.result c.unwrap-back.result acted.back kept c.unwrap-back.ensures in
    let used : c.args.used ≤ length c.args.olds.now = omega (arith, c.requires.olds_room) in
    let within : c.put_old_values-end.result ≤ length c.put_old_values-end.new.olds =
    omega (arith, c.put_old_values-end.ensures.at_most, c.requires.olds_room, c.put_old_values-end.auto.olds) in
    let count = put_count g.T.Recordable.old_of c.args.olds.now c.put_old_values-end.new.olds c.args.used
    c.put_old_values-end.result _ used within c.put_old_values-end.ensures.items in
    let many : c.put_old_values-end.result - c.args.used ≡ length (T.old_values c.args.machine.now g.T.Repeatable.repeated) =
    omega (arith, count, ap length (ap T.record_pairs is ∙ acted.old_values)) in
    rw (c.moment.ensures, many, c.label-label.ensures) refl
