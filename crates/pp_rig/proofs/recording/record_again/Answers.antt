use Rattle.std.proofs.Common.{◌≡◌, ◌∙◌, ◌+◌, ◌<◌, ◌++◌, ◌∷◌, ap, arith, drop, get_or, length, refl, rules, sym, take}
use Rattle.std.proofs.lemmas.List.{take_more_set}
use Rattle.pp_actions.specs.declared.action.Action.TheVariants.{Turn}
use Rattle.pp_rig.proofs.Recordings.{ahead_following, forward_more, forward_none, moments_following, olds_following}
use Rattle.pp_rig.proofs.Recordings.{performed_following, still_ahead}
use Rattle.pp_rig.specs.Action.{next}
use Rattle.pp_rig.specs.Inner.ActionRecords.{old_values_of}
use Rattle.pp_machine.specs.Olds.{numbered}
use Rattle.pp_rig.specs.Recording.{moment_of, moments_of, olds_of}
use Rattle.pp_rig.proofs.recording.record_again.Goals as goal

pub loop-actions-init : goal.loop-actions-init
unfolding moments_of olds_of
loop-actions-init c = record {
  most = search rules;
  made_room = search rules;
  olds_room = search rules;
  moves = forward_none c.args.session.now;
  machine = refl;
  moments = refl;
  olds = refl;
}

pub record_next-moment-requires-clause-some : goal.record_next-moment-requires-clause-some
record_next-moment-requires-clause-some c =
    let (v, at) = c.has_session_value.ensures in
    let count = c.loop-actions.actions in
    let within : count < length c.args.session.now.ahead =
    omega (arith, c.loop-actions-test.true, c.if-most-ahead.false, c.ahead-ahead.ensures.value) in
    let left = still_ahead count c.args.session.now c.loop-actions.session v at c.loop-actions.invariant.moves in
    omega (arith, ap length (left ∙ ahead_following c.args.session.now.ahead count within))

pub loop-actions-preserved : goal.loop-actions-preserved
loop-actions-preserved c =
    let (v, at) = c.has_session_value.ensures in
    let start = c.args.session.now.machine in
    let ahead = c.args.session.now.ahead in
    let count = c.loop-actions.actions in
    let within : count < length ahead = omega (arith, c.loop-actions-test.true, c.if-most-ahead.false, c.ahead-ahead.ensures.value)
    in
    let action = get_or ahead count Turn in
    let left : c.loop-actions.session.ahead ≡ action ∷ drop (count + 1) ahead =
    still_ahead count c.args.session.now c.loop-actions.session v at c.loop-actions.invariant.moves ∙ ahead_following ahead count
    within in
    let room : count < length c.loop-actions.made = search rules in
    let machine = c.loop-actions.invariant.machine in
    let moment = c.record_next-moment.ensures.moment action (drop (count + 1) ahead) left ∙ ap (λ s. moment_of s action) machine in
    record {
      most = search rules;
      made_room = search rules;
      olds_room = search rules;
      moves = forward_more count c.args.session.now c.loop-actions.session c.record_next-moment.new.session
          c.loop-actions.invariant.moves
          c.record_next-moment.ensures.moves;
      machine = c.record_next-moment.ensures.machine action (drop (count + 1) ahead) left ∙ ap (λ s. next s action) machine
          ∙ sym (performed_following ahead count within start);
      moments = rw (
        take_more_set c.loop-actions.made count c.record_next-moment.result room,
        moments_following ahead count within start,
        moment,
        c.loop-actions.invariant.moments,
      ) refl;
      olds = c.record_next-moment.ensures.olds action (drop (count + 1) ahead) left
          ∙ ap (λ olds. olds ++ numbered (old_values_of c.loop-actions.session.machine action)) c.loop-actions.invariant.olds
          ∙ ap (λ s. olds_of start (take count ahead) ++ numbered (old_values_of s action)) machine
          ∙ sym (olds_following ahead count within start);
    }
