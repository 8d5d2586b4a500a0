use Rattle.std.proofs.Common.{◌≡◌, ◌∙◌, ◌+◌, ◌-◌, ◌<◌, ◌≤◌, arith, get_or, refl, sym}
use Rattle.pp_history.specs.UndoRecord.{whole_record}
use Rattle.pp_machine.specs.declared.olds.Old.{Old}
use Rattle.pp_rig.specs.Inner.ActionRecords.{before, record_pairs}
use Rattle.pp_rig.specs.Inner.Short.{unpacked}
use Rattle.pp_search.proofs.Unmarked.{same_number}
use Rattle.pp_search.proofs.Written.{none_listed, some_of_any}
use Rattle.pp_search.specs.Condition.{is_changed}
use Rattle.pp_search.proofs.judging.has_changed_of_many.Goals as goal

pub returns-then-is_changed : goal.returns-then-is_changed
returns-then-is_changed c =
    let old = before (whole_record unpacked c.args.back.now) c.args.machine.now in
    let listed : Old = get_or c.list_places-k-end.new.olds c.loop-k.k (record { place = 0; number = 0 }) in
    let from : c.args.first ≤ listed.place = omega (arith, c.from-in-loop-k.ensures, c.if-from-number.true) in
    let within : listed.place - c.args.first < c.args.count = omega
    (arith, from, c.from.ensures, c.from-2.ensures, c.if-number-end.true) in
    let at : c.args.first + (listed.place - c.args.first) ≡ listed.place = omega (arith, from) in
    let changed = rw c.place_at.ensures.place at (sym c.is_changed.ensures ∙ c.if-is_changed.true) in
    sym (some_of_any (is_changed old c.args.machine.now) c.args.first c.args.count (listed.place - c.args.first) within
    (rw at changed))

pub returns : goal.returns
returns c =
    let back = whole_record unpacked c.args.back.now in
    let now = c.args.machine.now in
    sym (none_listed (record_pairs back) c.list_places-k-end.new.olds c.list_places-k-end.result (before back now) now c.args.first
    c.args.count
    c.list_places-k-end.ensures.lists (λ p none. same_number back (before back now) now p c.requires.fits refl none)
    (λ j less. c.loop-k.invariant j (omega (arith, less, c.loop-k-test.false))))
