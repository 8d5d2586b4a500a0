use Rattle.std.proofs.Common.{◌≡◌, ◌∙◌, ap, arith, refl, rules, sym}
use Rattle.pp_rig.proofs.Runs.{after_turns_add, after_turns_none}
use Rattle.pp_rig.specs.Stopping.{turned}
use Rattle.pp_search.proofs.Steps.{found_part, passed_all, passed_more, passed_none, size_kept, turned_add}
use Rattle.pp_search.proofs.search.find_turn.Goals as goal

pub loop-turns-init : goal.loop-turns-init
loop-turns-init c = record {
  within = search rules;
  machine = refl;
  at = λ v at. rw after_turns_none at;
  passed = passed_none c.args.condition.now c.args.most c.args.session.now.machine;
}

pub turn_part-part-requires-clause-has : goal.turn_part-part-requires-clause-has
turn_part-part-requires-clause-has c =
    rw (size_kept c.loop-turns.turns c.args.session.now.machine c.loop-turns.session.machine c.loop-turns.invariant.machine)
    c.requires.has

pub returns-then-part-clause-first : goal.returns-then-part-clause-first
returns-then-part-clause-first c =
    let part = c.turn_part-part in
    sym (found_part c.args.condition.now c.args.most c.loop-turns.turns part.result.turns c.args.session.now.machine
    c.loop-turns.session.machine part.result.is_found
    c.loop-turns.invariant.machine part.ensures.some.0 part.ensures.some.1 c.loop-turns.invariant.passed part.ensures.earlier
    part.ensures.last c.if-part.true)

pub returns-then-part-clause-machine : goal.returns-then-part-clause-machine
returns-then-part-clause-machine c =
    let part = c.turn_part-part in
    part.ensures.machine ∙ ap (turned part.result.turns) c.loop-turns.invariant.machine ∙ turned_add c.loop-turns.turns
    part.result.turns c.args.session.now.machine

pub returns-then-part-clause-moves : goal.returns-then-part-clause-moves
returns-then-part-clause-moves c = λ v at. rw (← after_turns_add) (c.turn_part-part.ensures.at _ (c.loop-turns.invariant.at v at))

pub loop-turns-preserved : goal.loop-turns-preserved
loop-turns-preserved c =
    let part = c.turn_part-part in
    record {
      within = omega (arith, part.ensures.some, c.loop-turns-test.true);
      machine = part.ensures.machine ∙ ap (turned part.result.turns) c.loop-turns.invariant.machine ∙ turned_add c.loop-turns.turns
          part.result.turns c.args.session.now.machine;
      at = λ v at. rw (← after_turns_add) (part.ensures.at _ (c.loop-turns.invariant.at v at));
      passed = passed_more c.args.condition.now c.args.most c.loop-turns.turns part.result.turns c.args.session.now.machine
          c.loop-turns.session.machine part.result.is_found
          c.loop-turns.invariant.machine part.ensures.some.0 part.ensures.some.1 c.loop-turns.invariant.passed part.ensures.earlier
          part.ensures.last c.if-part.false;
    }

pub returns-clause-first : goal.returns-clause-first
returns-clause-first c = sym (passed_all c.args.condition.now c.args.most c.loop-turns.turns c.args.session.now.machine
    c.loop-turns-test.false c.loop-turns.invariant.passed)

pub returns-clause-machine : goal.returns-clause-machine
returns-clause-machine c =
    let all : c.loop-turns.turns ≡ c.args.most = omega (arith, c.loop-turns.invariant.within, c.loop-turns-test.false) in
    c.loop-turns.invariant.machine ∙ ap (λ turns. turned turns c.args.session.now.machine) all

pub returns-clause-moves : goal.returns-clause-moves
returns-clause-moves c =
    let all : c.loop-turns.turns ≡ c.args.most = omega (arith, c.loop-turns.invariant.within, c.loop-turns-test.false) in
    rw all at c.loop-turns.invariant.at
