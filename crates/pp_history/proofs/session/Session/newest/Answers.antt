use Rattle.pp_history.proofs.Names.{List, length, slice_get, ap, arith, halves_in, in_tail, whole_record}
use Rattle.pp_history.proofs.{Joins.handed_out, Joins.item-at, Steps.newest-step}
use Rattle.std.proofs.lemmas.Option.{IfSome_then}
use Rattle.pp_history.proofs.session.Session.newest.Goals as goal

pub returns : goal.returns
returns g c =
    let T = g.T.Reversible in
    let log = c.self.inside.log in
    let found = c.get.ensures log.kept (omega (arith, c.if-self-eq0.false)) in
    let at = item-at T.unpacked in_tail 0 (halves_in log).kept log.tails.ring.items c.get.result.now
    (omega (arith, c.self.invariant.joined.kept.all)) found in
    let handed = handed_out (whole_record T.unpacked) c.undo_record.result at.item.1
    (rw at.is at (c.undo_record.ensures T.unpacked)) in
    let first = ap (λ (entries : List (_ × _)). slice_get entries 0) at.split in
    rw (← c.self.view_is) (record {
      fits = IfSome_then c.undo_record.result handed.0 (λ back is.
          rw (← is) (newest-step T _ c.self.invariant.value c.self.invariant.is_at at.item first).0);
      leads_back = IfSome_then c.undo_record.result handed.0
          (λ back is. λ v was. rw (← is) (newest-step T _ v was at.item first).1);
      old_values = IfSome_then c.undo_record.result handed.0
          (λ back is. λ v was. rw (← is) (newest-step T _ v was at.item first).2);
      none_kept = (λ none. absurd (handed.1 none), λ none. absurd (omega (arith, none, ap length at.split)));
      some_room = c.self.invariant.heads.some_room;
    })
