use Rattle.std.proofs.Common.{◌∙◌, ◌++◌, ap, refl, rules, sym}
use Rattle.pp_history.specs.Sampling.{samples}
use Rattle.pp_rig.proofs.TurnRows.{rows_add}
use Rattle.pp_rig.proofs.TurnRuns.{ends_more, moved_add, ran_add, ran_none}
use Rattle.pp_rig.specs.TurnRows.{rows_before}
use Rattle.pp_rig.proofs.turn_rows.record_rows.Goals as goal

pub loop-turns-init : goal.loop-turns-init
unfolding samples
loop-turns-init c = record {
  within = search rules;
  room = search rules;
  ran = ran_none c.args.session.now;
  rows = refl;
}

pub returns-then-hit-clause-moves : goal.returns-then-hit-clause-moves
returns-then-hit-clause-moves c =
    moved_add c.loop-turns.turns c.rows_part-count.result.0 c.args.session.now c.loop-turns.session c.rows_part-count.new.session
    c.loop-turns.invariant.ran c.rows_part-count.ensures.moves

pub returns-then-hit-clause-stops : goal.returns-then-hit-clause-stops
returns-then-hit-clause-stops c =
    ends_more c.loop-turns.turns c.rows_part-count.result.0 c.args.session.now c.loop-turns.session c.rows_part-count.result.1
    c.loop-turns.invariant.ran c.rows_part-count.ensures.stops

pub returns-then-hit-clause-rows : goal.returns-then-hit-clause-rows
returns-then-hit-clause-rows c =
    let turns = c.loop-turns.turns in
    let count = c.rows_part-count.result.0 in
    c.rows_part-count.ensures.rows
    ∙ ap (λ rows. rows ++ rows_before count c.loop-turns.session.machine) c.loop-turns.invariant.rows
    ∙ ap (λ s. rows_before turns c.args.session.now.machine ++ rows_before count s) c.loop-turns.invariant.ran.machine
    ∙ sym (rows_add turns count c.args.session.now.machine)

pub loop-turns-preserved : goal.loop-turns-preserved
loop-turns-preserved c =
    let turns = c.loop-turns.turns in
    let part = c.rows_part-count in
    let count = part.result.0 in
    record {
      within = search rules;
      room = search rules;
      ran = ran_add turns count c.args.session.now c.loop-turns.session part.new.session part.result.1 c.loop-turns.invariant.ran
          part.ensures.moves part.ensures.machine part.ensures.stops c.if-hit.false;
      rows = part.ensures.rows ∙ ap (λ rows. rows ++ rows_before count c.loop-turns.session.machine) c.loop-turns.invariant.rows
          ∙ ap (λ s. rows_before turns c.args.session.now.machine ++ rows_before count s) c.loop-turns.invariant.ran.machine
          ∙ sym (rows_add turns count c.args.session.now.machine);
    }
