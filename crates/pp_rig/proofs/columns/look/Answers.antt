use Rattle.std.proofs.Common.{◌≡◌, ◌∙◌, ◌+◌, ◌*◌, arith, length, refl, rules}
use Rattle.pp_rig.proofs.TurnRuns.{ends_with_hit, machine_more, moved_more, places_later, ran_more, ran_none, rows_after}
use Rattle.pp_rig.specs.Columns.{rows_of}
use Rattle.pp_rig.proofs.columns.look.Goals as goal

pub loop-turns-init : goal.loop-turns-init
unfolding rows_of
loop-turns-init c = record {
  most = search rules;
  used = search rules;
  room = search rules;
  ran = ran_none c.args.session.now;
  rows = refl;
}

pub write_row-requires-clause-has : goal.write_row-requires-clause-has
write_row-requires-clause-has c =
    let machine = machine_more c.loop-turns.turns c.args.session.now c.loop-turns.session c.turn_once-hit.new.session
    c.loop-turns.invariant.ran c.turn_once-hit.ensures.machine in
    rw c.machine.ensures.value
    (places_later c.args.places.now (c.loop-turns.turns + 1) c.args.session.now c.turn_once-hit.new.session machine c.requires.has)

pub returns-then-hit-clause-moves : goal.returns-then-hit-clause-moves
returns-then-hit-clause-moves c =
    moved_more c.loop-turns.turns c.args.session.now c.loop-turns.session c.turn_once-hit.new.session c.loop-turns.invariant.ran
    c.turn_once-hit.ensures.at

pub returns-then-hit-clause-stops : goal.returns-then-hit-clause-stops
returns-then-hit-clause-stops c =
    ends_with_hit c.loop-turns.turns c.args.session.now c.loop-turns.session c.turn_once-hit.result c.loop-turns.invariant.ran
    c.turn_once-hit.ensures.hit

pub returns-then-hit-clause-rows : goal.returns-then-hit-clause-rows
returns-then-hit-clause-rows c =
    let machine = machine_more c.loop-turns.turns c.args.session.now c.loop-turns.session c.turn_once-hit.new.session
    c.loop-turns.invariant.ran c.turn_once-hit.ensures.machine in
    rows_after c.loop-turns.turns c.loop-turns.used c.args.session.now.machine c.machine.result.now c.args.places.now
    c.loop-turns.into
    c.write_row.new.into c.loop-turns.invariant.used c.loop-turns.invariant.rows c.write_row.ensures
    (c.machine.ensures.value ∙ machine)

pub loop-turns-preserved : goal.loop-turns-preserved
loop-turns-preserved c =
    let machine = machine_more c.loop-turns.turns c.args.session.now c.loop-turns.session c.turn_once-hit.new.session
    c.loop-turns.invariant.ran c.turn_once-hit.ensures.machine in
    let rows = rows_after c.loop-turns.turns c.loop-turns.used c.args.session.now.machine c.machine.result.now c.args.places.now
    c.loop-turns.into
    c.write_row.new.into c.loop-turns.invariant.used c.loop-turns.invariant.rows c.write_row.ensures
    (c.machine.ensures.value ∙ machine) in
    let count : c.loop-turns.used + length c.args.places.now ≡ (c.loop-turns.turns + 1) * length c.args.places.now = grind
    (arith, c.loop-turns.invariant.used) in
    record {
      most = search rules;
      used = count;
      room = search rules;
      ran = ran_more c.loop-turns.turns c.args.session.now c.loop-turns.session c.turn_once-hit.new.session c.turn_once-hit.result
          c.loop-turns.invariant.ran
          c.turn_once-hit.ensures.at c.turn_once-hit.ensures.machine c.turn_once-hit.ensures.hit c.if-hit.false;
      rows = rw count rows;
    }
