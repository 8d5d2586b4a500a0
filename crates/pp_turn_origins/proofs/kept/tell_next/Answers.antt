use Rattle.std.proofs.Common.{◌≡◌, ◌∙◌, ◌+◌, ◌∷◌, [], ap, arith, refl, subst, sym, take}
use Rattle.pp_actions.specs.declared.action.Action.TheVariants.{Turn}
use Rattle.pp_history.specs.SessionLaws.{machine_at}
use Rattle.pp_history.specs.SessionValue.{after_forward, replay}
use Rattle.pp_origins.specs.Links.{links_of}
use Rattle.pp_rig.proofs.Recordings.{forward_standing}
use Rattle.pp_rig.specs.Rules.{rules as rig}
use Rattle.pp_turn_origins.proofs.WholeTurn.{links_other, made_other, turn_is}
use Rattle.pp_turn_origins.specs.Inner.{IsBegun}
use Rattle.pp_turn_origins.specs.Turn.{turn_origins}
use Rattle.pp_turn_origins.proofs.kept.tell_next.Goals as goal

pub returns-then-is_newest_turn-clause-made : goal.returns-then-is_newest_turn-clause-made
returns-then-is_newest_turn-clause-made c = λ action later same.
    let (v, at) = c.has_session_value.ensures in
    let moved = c.in-Ok.ensures.moves v at in
    let standing = forward_standing c.args.session.now v action later at same in
    let is : action ≡ Turn =
    turn_is action (sym (c.is_newest_turn.ensures (after_forward v 1) action v.standing moved standing) ∙ c.if-is_newest_turn.true)
    in
    let here = machine_at rig c.args.session.now v at in
    let begun = subst (λ s. IsBegun s [] c.begin_turn-begun.new.links c.begin_turn-begun.result) (c.machine.ensures.value ∙ here)
    c.begin_turn-begun.ensures.begun in
    let ended = c.end_turn.ensures.ended (after_forward v 1) v.standing [] moved (standing ∙ ap (λ a. a ∷ v.standing) is) refl begun
    in
    rw (here, is) ended.turn

pub returns-then-is_newest_turn-clause-links : goal.returns-then-is_newest_turn-clause-links
returns-then-is_newest_turn-clause-links c = λ action later same.
    let (v, at) = c.has_session_value.ensures in
    let moved = c.in-Ok.ensures.moves v at in
    let standing = forward_standing c.args.session.now v action later at same in
    let is : action ≡ Turn =
    turn_is action (sym (c.is_newest_turn.ensures (after_forward v 1) action v.standing moved standing) ∙ c.if-is_newest_turn.true)
    in
    let here = machine_at rig c.args.session.now v at in
    let begun = subst (λ s. IsBegun s [] c.begin_turn-begun.new.links c.begin_turn-begun.result) (c.machine.ensures.value ∙ here)
    c.begin_turn-begun.ensures.begun in
    let ended = c.end_turn.ensures.ended (after_forward v 1) v.standing [] moved (standing ∙ ap (λ a. a ∷ v.standing) is) refl begun
    in
    let count : 0 + c.end_turn.result.links ≡ c.end_turn.result.links = omega arith in
    rw (here, is) (subst (λ k. take k c.end_turn.new.links ≡ links_of (turn_origins (replay rig v.start v.standing))) count
    ended.items)

pub returns-clause-made : goal.returns-clause-made
returns-clause-made c = λ action later same.
    let (v, at) = c.has_session_value.ensures in
    let moved = c.in-Ok.ensures.moves v at in
    let standing = forward_standing c.args.session.now v action later at same in
    let other = sym (c.is_newest_turn.ensures (after_forward v 1) action v.standing moved standing) ∙ c.if-is_newest_turn.false in
    let (count, _) = c.put_overwritten-count.ensures.olds (after_forward v 1) action v.standing moved standing in
    rw (machine_at rig c.args.session.now v at)
    (made_other (replay rig v.start v.standing) action c.put_overwritten-count.result other count)

pub returns-clause-links : goal.returns-clause-links
returns-clause-links c = λ action later same.
    let (v, at) = c.has_session_value.ensures in
    let standing = forward_standing c.args.session.now v action later at same in
    let other = sym (c.is_newest_turn.ensures (after_forward v 1) action v.standing (c.in-Ok.ensures.moves v at) standing) ∙
    c.if-is_newest_turn.false in
    sym (links_other c.args.session.now.machine action other)
