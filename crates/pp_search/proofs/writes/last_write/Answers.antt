use Rattle.std.proofs.Common.{◌≡◌, ◌∙◌, ◌≤◌, arith, length, refl, sym}
use Rattle.std.specs.Prelude.{unwrap_or}
use Rattle.pp_history.proofs.Steps.{back_ahead, back_forward, kept_le}
use Rattle.pp_rig.specs.Rules.{rules}
use Rattle.pp_search.proofs.LastWrite.{undone_within}
use Rattle.pp_search.proofs.writes.last_write.Goals as goal

pub unreachable-requires : goal.unreachable-requires
unreachable-requires c =
    let (v, at) = c.has_session_value.ensures in
    let found = c.back_to_write-found in
    let kept : c.kept-kept.result ≡ v.kept = c.kept-kept.ensures.at v at in
    let moved = found.ensures.moves v at in
    let within : unwrap_or found.result v.kept ≤ v.kept = undone_within found.result v.kept (rw at.kept at found.ensures.kept) in
    let ahead = back_ahead v (unwrap_or found.result v.kept) within (kept_le rules c.args.session.now v at) in
    let few = rw (c.unwrap_or.ensures, kept, moved.ahead) at (c.in_default.ensures.fails.0 refl) in
    absurd (omega (arith, ahead, few))

pub returns-clause-stays : goal.returns-clause-stays
returns-clause-stays c = λ v at.
    let found = c.back_to_write-found in
    let kept : c.kept-kept.result ≡ v.kept = c.kept-kept.ensures.at v at in
    let within : unwrap_or found.result v.kept ≤ v.kept = undone_within found.result v.kept (rw at.kept at found.ensures.kept) in
    rw (c.unwrap_or.ensures, kept, back_forward v (unwrap_or found.result v.kept) within (kept_le rules c.args.session.now v at)) at
    (c.in-Ok.ensures.moves _ (found.ensures.moves v at))

pub returns-clause-kept : goal.returns-clause-kept
returns-clause-kept c =
    let (v, at) = c.has_session_value.ensures in
    let same : length c.forward.new.self.records ≡ length c.args.session.now.records =
    (returns-clause-stays c v at).kept ∙ sym at.kept in
    rw same c.back_to_write-found.ensures.kept
