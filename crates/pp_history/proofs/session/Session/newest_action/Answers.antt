use Rattle.pp_history.proofs.Names.{List, length, slice_get, ap, arith, halves_in, in_tail, whole_action}
use Rattle.pp_history.proofs.{Joins.handed_out, Joins.item-at, Values.put_back_action}
use Rattle.std.proofs.lemmas.Option.{IfSome_then}
use Rattle.pp_history.proofs.session.Session.newest_action.Goals as goal

pub returns : goal.returns
returns g c =
    let T = g.T.Reversible in
    let log = c.self.inside.log in
    let found = c.get.ensures log.kept (omega (arith, c.if-self-eq0.false)) in
    let at = item-at T.unpacked in_tail 0 (halves_in log).kept log.tails.ring.items c.get.result.now
    (omega (arith, c.self.invariant.joined.kept.all)) found in
    let handed = handed_out (whole_action T.unpacked) c.kept_action.result at.item.0
    (rw at.is at (c.kept_action.ensures T.unpacked)) in
    let first = ap (λ (entries : List (_ × _)). slice_get entries 0) at.split in
    rw (← c.self.view_is) (record {
      action = IfSome_then c.kept_action.result handed.0
          (λ newest is. λ v was. rw (← is) (put_back_action T _ v was 0 at.item first));
      none_kept = (λ none. absurd (handed.1 none), λ none. absurd (omega (arith, none, ap length at.split)));
    })
