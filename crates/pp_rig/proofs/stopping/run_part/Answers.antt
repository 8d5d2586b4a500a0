use Rattle.std.proofs.Common.{◌≡◌, ◌+◌, ◌-◌, arith, sym}
use Rattle.pp_history.proofs.Repeats.{after_acts_more}
use Rattle.pp_history.specs.{Repeating.after_acts, SessionLaws.machine_at, SessionValue.IsAt, SessionValue.after_act}
use Rattle.pp_actions.specs.declared.action.Action.TheVariants.{Turn}
use Rattle.pp_rig.specs.Rules.{rules}
use Rattle.pp_rig.proofs.Runs.{last_hit, last_turn, turns_are_acts}
use Rattle.pp_rig.proofs.stopping.run_part.Goals as goal

pub returns-clause-stops : goal.returns-clause-stops
returns-clause-stops c =
    let v = c.has_session_value.ensures.0 in
    let at = c.has_session_value.ensures.1 in
    let turns : c.repeat-turns.result ≡ c.repeat-turns.result - 1 + 1 = omega (arith, c.repeat-turns.ensures.some) in
    let last : IsAt rules c.repeat-turns.new.self (after_act (after_acts (c.repeat-turns.result - 1) Turn v) Turn) =
    rw (← after_acts_more) (rw turns at (c.repeat-turns.ensures.at v at)) in
    let hit = last_hit (c.repeat-turns.result - 1) c.args.session.now.machine _ v _ (machine_at rules _ v at)
    (rw turns at c.repeat-turns.ensures.machine) (c.newest_change.ensures (after_acts (c.repeat-turns.result - 1) Turn v) last) in
    rw (turns, hit) (sym (last_turn c.args.marks.now
    (c.repeat-turns.result - 1) c.args.session.now.machine c.repeat-turns.ensures.unmarked c.requires.covered))

pub returns-clause-at : goal.returns-clause-at
returns-clause-at c = λ v at. rw turns_are_acts (c.repeat-turns.ensures.at v at)
