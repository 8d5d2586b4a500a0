use Rattle.std.proofs.Common.{◌≤◌, arith, refl}
use Rattle.pp_history.specs.SessionLaws.{machine_at}
use Rattle.pp_rig.proofs.Runs.{turns_are_acts}
use Rattle.pp_rig.specs.Rules.{rules}
use Rattle.pp_search.proofs.Steps.{last_comes, size_kept, some_kept}
use Rattle.pp_search.proofs.Unmarked.{skipped_turns}
use Rattle.pp_search.proofs.search.turn_part.Goals as goal

pub comes_newest-requires-clause-some : goal.comes_newest-requires-clause-some
comes_newest-requires-clause-some c =
    let (v, at) = c.has_session_value.ensures in
    let room : 1 ≤ v.capacity = omega (arith, c.capacity-capacity.ensures.at v at, c.capacity-capacity.ensures.in_range) in
    let turns = c.perform_turns-turns in
    let moved = rw turns_are_acts at (turns.ensures.at v at) in
    omega (arith, moved.kept, some_kept turns.result v turns.ensures.some.0 room)

pub comes_newest-requires-clause-has : goal.comes_newest-requires-clause-has
comes_newest-requires-clause-has c =
    let turns = c.perform_turns-turns in
    rw (size_kept turns.result c.args.session.now.machine turns.new.session.machine turns.ensures.machine) c.requires.has

pub returns-clause-earlier : goal.returns-clause-earlier
returns-clause-earlier c =
    let turns = c.perform_turns-turns in
    let s = c.args.session.now.machine in
    let done = turns.ensures in
    skipped_turns c.args.condition.now c.args.plan.now turns.result s _ refl c.requires.plan done.each done.unmarked

pub returns-clause-last : goal.returns-clause-last
returns-clause-last c =
    let (v, at) = c.has_session_value.ensures in
    let turns = c.perform_turns-turns in
    last_comes c.args.condition.now turns.result v c.args.session.now.machine c.comes_newest.result turns.ensures.some.0
    (machine_at rules c.args.session.now v at) (c.comes_newest.ensures _ (rw turns_are_acts at (turns.ensures.at v at)))
