use Rattle.std.proofs.Common.{refl, sym}
use Rattle.pp_history.specs.UndoRecord.{whole_record}
use Rattle.pp_rig.specs.Inner.ActionRecords.{before, record_pairs}
use Rattle.pp_rig.specs.Inner.Short.{unpacked}
use Rattle.pp_search.proofs.Chosen.{none_chosen, take_whole}
use Rattle.pp_search.proofs.Owned.{other_does_not_come}
use Rattle.pp_search.specs.Condition.{comes}
use Rattle.pp_search.specs.declared.condition.Alternative.{Alternative}
use Rattle.pp_search.proofs.judging.candidate_comes.Goals as goal

pub returns : goal.returns
returns c =
    let (turn, is, are) = c.requires.turn in
    let now = c.args.machine.now in
    let back = whole_record unpacked c.args.back.now in
    let alternatives = c.args.condition.now.alternatives.items in
    let one = λ (alternative : Alternative). comes alternative (before back now) (record_pairs back) now in
    sym (none_chosen one alternatives c.args.candidates.now turn.rest.slot are
    (λ alternative of. other_does_not_come turn back now turn.rest.slot alternative is refl c.requires.fits of)
    (rw (take_whole c.args.candidates.now.alternatives.items c.loop-i.i-index
    (rw c.as_slice-i-items.ensures.value at c.loop-i-test.false)) at c.loop-i.invariant))
