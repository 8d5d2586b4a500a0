use Rattle.std.proofs.Common.{◌≤◌, arith, refl}
use Rattle.pp_history.proofs.Steps.{back_ahead, back_forward, kept_le}
use Rattle.pp_rig.specs.Rules.{rules as rig}
use Rattle.pp_turn_origins.proofs.kept.kept_origins.Goals as goal

pub unreachable-requires-in_default-forward : goal.unreachable-requires-in_default-forward
unreachable-requires-in_default-forward c =
    let (v, at) = c.has_session_value.ensures in
    let kept : c.args.newer ≤ v.kept = omega (arith, at.kept, c.requires.some) in
    let here = c.tell_newest-made.ensures.stays _ (c.in-Ok.ensures.moves v at) in
    let ahead = back_ahead v c.args.newer kept (kept_le rig c.args.session.now v at) in
    let few = rw here.ahead at (c.in_default-forward.ensures.fails.0 refl) in
    absurd (omega (arith, ahead, few))

pub returns-clause-stays : goal.returns-clause-stays
returns-clause-stays c = λ v at.
    let kept : c.args.newer ≤ v.kept = omega (arith, at.kept, c.requires.some) in
    let here = c.tell_newest-made.ensures.stays _ (c.in-Ok.ensures.moves v at) in
    rw (back_forward v c.args.newer kept (kept_le rig c.args.session.now v at)) at (c.in-Ok-forward.ensures.moves _ here)

pub returns-clause-kept : goal.returns-clause-kept
returns-clause-kept c = λ v at action earlier same. c.tell_newest-made.ensures.kept _ (c.in-Ok.ensures.moves v at) action earlier
    same
