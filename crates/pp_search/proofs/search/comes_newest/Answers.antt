use Rattle.std.proofs.Common.{◌∙◌, ◌<◌, ap, arith, subst, sym}
use Rattle.pp_machine.specs.Ranges.{processor_count}
use Rattle.pp_search.specs.Plan.{AreCandidates}
use Rattle.pp_history.specs.SessionLaws.{machine_at}
use Rattle.pp_history.specs.UndoRecord.{whole_record}
use Rattle.pp_rig.specs.Inner.ActionRecords.{record_pairs}
use Rattle.pp_rig.specs.Inner.Short.{unpacked}
use Rattle.pp_rig.specs.Rules.{rules}
use Rattle.pp_search.proofs.Owned.{none_where_it_is}
use Rattle.pp_search.proofs.Steps.{newest_comes}
use Rattle.pp_search.proofs.Unmarked.{skipped_action}
use Rattle.pp_search.proofs.search.comes_newest.Goals as goal

pub candidate_comes-requires-clause-turn : goal.candidate_comes-requires-clause-turn
candidate_comes-requires-clause-turn c =
    let turn = c.in-Head.turn.now in
    let from = c.from.ensures ∙ c.slot-pp.ensures in
    let less : turn.rest.slot < processor_count = (rw c.in-Head.is at c.in-Some.ensures.fits).part.rest.slot in
    let candidates = rw (c.as_slice.ensures.value, from) at c.index-as_slice-from.is in
    let AreOf = AreCandidates turn.rest.slot c.args.condition.now.alternatives.items in
    let are = subst AreOf (sym candidates) (c.requires.plan.candidates turn.rest.slot _ less) in
    (turn, ap (whole_record unpacked) c.in-Head.is, are)

pub returns-else-not-plan : goal.returns-else-not-plan
returns-else-not-plan c = λ v at.
    let back = whole_record unpacked c.in-Some.back in
    let newest = c.in-Some.ensures in
    newest_comes c.args.condition.now v.start v.standing back c.args.session.now.machine c.candidate_comes.result
    (machine_at rules c.args.session.now v at) (newest.leads_back v at) (newest.old_values v at)
    (rw c.machine-in-Head.ensures.value at c.candidate_comes.ensures)

pub returns-in-Tail : goal.returns-in-Tail
returns-in-Tail c = λ v at.
    let back = whole_record unpacked c.in-Some.back in
    let newest = c.in-Some.ensures in
    newest_comes c.args.condition.now v.start v.standing back c.args.session.now.machine c.comes_to_hold.result
    (machine_at rules c.args.session.now v at) (newest.leads_back v at) (newest.old_values v at)
    (rw c.machine-in-Tail.ensures.value at c.comes_to_hold.ensures)

pub returns-then-not-can_hold : goal.returns-then-not-can_hold
returns-then-not-can_hold c = λ v at.
    let turn = c.in-Head.turn.now in
    let now = c.args.session.now.machine in
    let back = whole_record unpacked c.in-Some.back in
    let condition = c.args.condition.now in
    let pp = c.slot-pp.result in
    let slot : turn.rest.slot < processor_count = (rw c.in-Head.is at c.in-Some.ensures.fits).part.rest.slot in
    let less : pp < processor_count = omega (arith, slot, c.slot-pp.ensures) in
    let candidates = rw (c.as_slice.ensures.value, c.from.ensures) at c.index-as_slice-from.is in
    let are = subst (AreCandidates pp condition.alternatives.items) (sym candidates) (c.requires.plan.candidates pp _ less) in
    let off = rw c.machine.ensures.value at (sym c.can_hold.ensures ∙ c.if-not-can_hold.true) in
    let newest = c.in-Some.ensures in
    newest_comes condition v.start v.standing back now _ (machine_at rules c.args.session.now v at) (newest.leads_back v at)
    (newest.old_values v at) (sym (none_where_it_is turn back now pp condition c.index-as_slice-from.result
    (ap (whole_record unpacked) c.in-Head.is) (sym c.slot-pp.ensures) newest.fits are off))

pub returns-then-not-may_be_marked : goal.returns-then-not-may_be_marked
returns-then-not-may_be_marked c = λ v at.
    let now = c.args.session.now.machine in
    let back = whole_record unpacked c.in-Some.back in
    let unmarked = c.may_be_marked.ensures c.if-not-may_be_marked.true in
    let newest = c.in-Some.ensures in
    newest_comes c.args.condition.now v.start v.standing back now _ (machine_at rules c.args.session.now v at)
    (newest.leads_back v at)
    (newest.old_values v at) (sym (skipped_action c.args.condition.now c.args.plan.now back now (record_pairs back)
    newest.fits c.requires.plan c.if-not-plan.true unmarked))
