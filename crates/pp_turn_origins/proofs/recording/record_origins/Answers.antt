use Rattle.std.proofs.Common.{◌≡◌, ◌∙◌, ◌<◌, ◌++◌, ap, length, refl, replicate, rules}
use Rattle.std.proofs.lemmas.List.{take_more_set}
use Rattle.pp_actions.specs.declared.action.Action.TheVariants.{Turn}
use Rattle.pp_machine.specs.Olds.{numbered}
use Rattle.pp_origins.specs.Links.{links_of}
use Rattle.pp_rig.proofs.Recordings.{olds_more}
use Rattle.pp_rig.proofs.TurnRuns.{ends_with_hit, moved_more, ran_more, ran_none}
use Rattle.pp_rig.specs.Inner.ActionRecords.{old_values_of}
use Rattle.pp_rig.specs.Recording.{olds_of}
use Rattle.pp_rig.specs.Stopping.{turned}
use Rattle.pp_turn_origins.proofs.WholeTurn.{links_more, made_more}
use Rattle.pp_turn_origins.specs.Recording.{all_links, all_made, made_of}
use Rattle.pp_turn_origins.specs.Turn.{turn_origins}
use Rattle.pp_turn_origins.proofs.recording.record_origins.Goals as goal

pub loop-turns-init : goal.loop-turns-init
unfolding all_made all_links olds_of
loop-turns-init c = record {
  most = search rules;
  made_room = search rules;
  links_room = search rules;
  olds_room = search rules;
  ran = ran_none c.args.session.now;
  made = refl;
  links = refl;
  olds = refl;
}

pub returns-then-hit-clause-moves : goal.returns-then-hit-clause-moves
returns-then-hit-clause-moves c =
    moved_more c.loop-turns.turns c.args.session.now c.loop-turns.session c.record_turn-hit.new.session c.loop-turns.invariant.ran
    c.record_turn-hit.ensures.at

pub returns-then-hit-clause-stops : goal.returns-then-hit-clause-stops
returns-then-hit-clause-stops c =
    ends_with_hit c.loop-turns.turns c.args.session.now c.loop-turns.session c.record_turn-hit.result.1 c.loop-turns.invariant.ran
    c.record_turn-hit.ensures.hit

pub returns-then-hit-clause-made : goal.returns-then-hit-clause-made
returns-then-hit-clause-made c =
    let room : c.loop-turns.turns < length c.loop-turns.made = search rules in
    let is : c.record_turn-hit.result.0 ≡ made_of (turned c.loop-turns.turns c.args.session.now.machine) =
    c.record_turn-hit.ensures.made ∙ ap made_of c.loop-turns.invariant.ran.machine in
    rw (
      take_more_set c.loop-turns.made c.loop-turns.turns c.record_turn-hit.result.0 room,
      made_more,
      is,
      c.loop-turns.invariant.made,
    ) refl

pub returns-then-hit-clause-links : goal.returns-then-hit-clause-links
returns-then-hit-clause-links c =
    rw links_more (c.record_turn-hit.ensures.links
    ∙ ap (λ links. links ++ links_of (turn_origins c.loop-turns.session.machine)) c.loop-turns.invariant.links
    ∙ ap (λ s. all_links c.loop-turns.turns c.args.session.now.machine ++ links_of (turn_origins s))
    c.loop-turns.invariant.ran.machine)

pub returns-then-hit-clause-olds : goal.returns-then-hit-clause-olds
returns-then-hit-clause-olds c =
    rw olds_more (c.record_turn-hit.ensures.olds
    ∙ ap (λ olds. olds ++ numbered (old_values_of c.loop-turns.session.machine Turn)) c.loop-turns.invariant.olds
    ∙ ap (λ s. olds_of c.args.session.now.machine (replicate c.loop-turns.turns Turn) ++ numbered (old_values_of s Turn))
    c.loop-turns.invariant.ran.machine)

pub loop-turns-preserved : goal.loop-turns-preserved
loop-turns-preserved c =
    let room : c.loop-turns.turns < length c.loop-turns.made = search rules in
    let is : c.record_turn-hit.result.0 ≡ made_of (turned c.loop-turns.turns c.args.session.now.machine) =
    c.record_turn-hit.ensures.made ∙ ap made_of c.loop-turns.invariant.ran.machine in
    record {
      most = search rules;
      made_room = search rules;
      links_room = search rules;
      olds_room = search rules;
      ran = ran_more c.loop-turns.turns c.args.session.now c.loop-turns.session c.record_turn-hit.new.session
          c.record_turn-hit.result.1
          c.loop-turns.invariant.ran c.record_turn-hit.ensures.at c.record_turn-hit.ensures.machine c.record_turn-hit.ensures.hit
          c.if-hit.false;
      made = rw (
        take_more_set c.loop-turns.made c.loop-turns.turns c.record_turn-hit.result.0 room,
        made_more,
        is,
        c.loop-turns.invariant.made,
      ) refl;
      links = rw links_more (c.record_turn-hit.ensures.links
          ∙ ap (λ links. links ++ links_of (turn_origins c.loop-turns.session.machine)) c.loop-turns.invariant.links
          ∙ ap (λ s. all_links c.loop-turns.turns c.args.session.now.machine ++ links_of (turn_origins s))
          c.loop-turns.invariant.ran.machine);
      olds = rw olds_more (c.record_turn-hit.ensures.olds
          ∙ ap (λ olds. olds ++ numbered (old_values_of c.loop-turns.session.machine Turn)) c.loop-turns.invariant.olds
          ∙ ap (λ s. olds_of c.args.session.now.machine (replicate c.loop-turns.turns Turn) ++ numbered (old_values_of s Turn))
          c.loop-turns.invariant.ran.machine);
    }
