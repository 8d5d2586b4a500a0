use Rattle.std.proofs.Common.{◌≡◌, ◌∙◌, ◌≤◌, ◌∷◌, ◌++◌, ap, arith, drop, length, reverse, take}
use Rattle.pp_history.proofs.Steps.{back_ahead, back_forward, kept_le}
use Rattle.pp_history.specs.SessionLaws.{machine_at}
use Rattle.pp_history.specs.SessionValue.{after_back, replay}
use Rattle.pp_rig.specs.Rules.{rules as rig}
use Rattle.pp_turn_origins.specs.Recording.{links_by, made_by}
use Rattle.pp_turn_origins.proofs.kept.tell_newest.Goals as goal

pub tell_next-requires-clause-some : goal.tell_next-requires-clause-some
tell_next-requires-clause-some c =
    let (v, at) = c.has_session_value.ensures in
    let kept : 1 ≤ v.kept = omega (arith, at.kept, c.requires.some) in
    omega (arith, ap length (c.in-Ok.ensures.moves v at).ahead, back_ahead v 1 kept (kept_le rig c.args.session.now v at))

pub returns-clause-stays : goal.returns-clause-stays
returns-clause-stays c = λ v at.
    let kept : 1 ≤ v.kept = omega (arith, at.kept, c.requires.some) in
    rw (back_forward v 1 kept (kept_le rig c.args.session.now v at)) at (c.tell_next.ensures.moves _ (c.in-Ok.ensures.moves v at))

pub returns-clause-kept : goal.returns-clause-kept
returns-clause-kept c = λ v at action earlier same.
    let moved = c.in-Ok.ensures.moves v at in
    let ahead : c.back.new.self.ahead ≡ action ∷ v.ahead =
    moved.ahead ∙ ap (λ standing. reverse (take 1 standing) ++ v.ahead) same in
    let machine : c.back.new.self.machine ≡ replay rig v.start earlier =
    machine_at rig c.back.new.self (after_back v 1) moved ∙ ap (λ standing. replay rig v.start (drop 1 standing)) same in (
      c.tell_next.ensures.made action v.ahead ahead ∙ ap (λ s. made_by s action) machine,
      c.tell_next.ensures.links action v.ahead ahead ∙ ap (λ s. links_by s action) machine,
    )
