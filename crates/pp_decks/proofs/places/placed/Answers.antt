use Rattle.std.proofs.Common.{map}
use Rattle.std.proofs.lemmas.List.Elements.{All-push}
use Rattle.pp_decks.specs.Places.{IsOfLine, length_of}
use Rattle.pp_decks.proofs.places.placed.Goals as goal

pub loop-complaint-preserved : goal.loop-complaint-preserved
loop-complaint-preserved c = rw c.in_ok-push.ensures.items
    (All-push (IsOfLine (map length_of c.args.spans.now)) c.loop-complaint.placed.items c.within.result c.loop-complaint.invariant
    c.within.ensures)
