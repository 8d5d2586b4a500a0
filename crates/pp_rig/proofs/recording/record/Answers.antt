use Rattle.std.proofs.Common.{◌∙◌, ◌++◌, ap, refl, replicate, rules, sym}
use Rattle.pp_actions.specs.declared.action.Action.TheVariants.{Turn}
use Rattle.pp_rig.proofs.Recordings.{moments_add, olds_add}
use Rattle.pp_rig.proofs.TurnRuns.{ends_more, moved_add, ran_add, ran_none}
use Rattle.pp_rig.specs.Recording.{moments_of, olds_of}
use Rattle.pp_rig.proofs.recording.record.Goals as goal

pub loop-turns-init : goal.loop-turns-init
unfolding moments_of olds_of
loop-turns-init c = record {
  most = search rules;
  made_room = search rules;
  olds_room = search rules;
  ran = ran_none c.args.session.now;
  moments = refl;
  olds = refl;
}

pub returns-then-hit-clause-moves : goal.returns-then-hit-clause-moves
returns-then-hit-clause-moves c =
    moved_add c.loop-turns.turns c.record_part-hit.result.0.count c.args.session.now c.loop-turns.session
    c.record_part-hit.new.session
    c.loop-turns.invariant.ran c.record_part-hit.ensures.moves

pub returns-then-hit-clause-stops : goal.returns-then-hit-clause-stops
returns-then-hit-clause-stops c =
    ends_more c.loop-turns.turns c.record_part-hit.result.0.count c.args.session.now c.loop-turns.session c.record_part-hit.result.1
    c.loop-turns.invariant.ran c.record_part-hit.ensures.stops

pub returns-then-hit-clause-moments : goal.returns-then-hit-clause-moments
returns-then-hit-clause-moments c =
    let turns = c.loop-turns.turns in
    let count = c.record_part-hit.result.0.count in
    c.record_part-hit.ensures.moments
    ∙ ap (λ moments. moments ++ moments_of c.loop-turns.session.machine (replicate count Turn)) c.loop-turns.invariant.moments
    ∙ ap (λ s. moments_of c.args.session.now.machine (replicate turns Turn) ++ moments_of s (replicate count Turn))
    c.loop-turns.invariant.ran.machine
    ∙ sym (moments_add turns count c.args.session.now.machine)

pub returns-then-hit-clause-olds : goal.returns-then-hit-clause-olds
returns-then-hit-clause-olds c =
    let turns = c.loop-turns.turns in
    let count = c.record_part-hit.result.0.count in
    c.record_part-hit.ensures.olds
    ∙ ap (λ olds. olds ++ olds_of c.loop-turns.session.machine (replicate count Turn)) c.loop-turns.invariant.olds
    ∙ ap (λ s. olds_of c.args.session.now.machine (replicate turns Turn) ++ olds_of s (replicate count Turn))
    c.loop-turns.invariant.ran.machine
    ∙ sym (olds_add turns count c.args.session.now.machine)

pub loop-turns-preserved : goal.loop-turns-preserved
loop-turns-preserved c =
    let turns = c.loop-turns.turns in
    let part = c.record_part-hit in
    let count = part.result.0.count in
    record {
      most = search rules;
      made_room = search rules;
      olds_room = search rules;
      ran = ran_add turns count c.args.session.now c.loop-turns.session part.new.session part.result.1 c.loop-turns.invariant.ran
          part.ensures.moves part.ensures.machine part.ensures.stops c.if-hit.false;
      moments = part.ensures.moments
          ∙ ap (λ moments. moments ++ moments_of c.loop-turns.session.machine (replicate count Turn)) c.loop-turns.invariant.moments
          ∙ ap (λ s. moments_of c.args.session.now.machine (replicate turns Turn) ++ moments_of s (replicate count Turn))
          c.loop-turns.invariant.ran.machine
          ∙ sym (moments_add turns count c.args.session.now.machine);
      olds = part.ensures.olds
          ∙ ap (λ olds. olds ++ olds_of c.loop-turns.session.machine (replicate count Turn)) c.loop-turns.invariant.olds
          ∙ ap (λ s. olds_of c.args.session.now.machine (replicate turns Turn) ++ olds_of s (replicate count Turn))
          c.loop-turns.invariant.ran.machine
          ∙ sym (olds_add turns count c.args.session.now.machine);
    }
