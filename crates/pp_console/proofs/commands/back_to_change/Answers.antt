use Rattle.std.proofs.Common.{◌<◌, ◌∙◌, ap, arith, refl, length, map, append-nil}
use Rattle.std.proofs.lemmas.Bool.Decides.{nat_tests}
use Rattle.pp_history.specs.SessionValue.{after_back}
use Rattle.pp_machine.specs.Machine.{Machine}
use Rattle.pp_actions.specs.Watches.{watched_place, watches_of}
use Rattle.pp_console.specs.{Commands.change_answer, Watches.hit_text}
use Rattle.pp_console.proofs.Performing.{performs-answered, performs-rejected, change-unwatched, change-found, change-none}
use Rattle.pp_console.proofs.commands.back_to_change.Goals as goal

pub returns-then-is_empty : goal.returns-then-is_empty
returns-then-is_empty g c =
    performs-rejected c.args.session.now change_answer c.reject.ensures.written c.reject.ensures.performed refl
    (λ v at. change-unwatched v c.watched_places-places.result.items (c.watched_places-places.ensures.value
    ∙ ap (λ (m : Machine). map watched_place (watches_of m)) (c.machine.ensures.is_replay v at)) (grind (arith, nat_tests)))

pub returns-in-Ok : goal.returns-in-Ok
unfolding hit_text
returns-in-Ok g c = let some : 0 < length c.watched_places-places.result.items = grind (arith, nat_tests) in
    performs-answered c.args.session.now change_answer c.write_moved.ensures.written c.write_moved.ensures.performed
    (λ v at. let moves = c.in-Ok.ensures.moves v at in (
      after_back v c.in-Ok.actions,
      rw (append-nil, c.slot.ensures.value, c.machine-in-Ok.ensures.is_replay _ moves)
          (change-found v c.watched_places-places.result.items c.in-Ok.actions (c.watched_places-places.ensures.value
          ∙ ap (λ (m : Machine). map watched_place (watches_of m))
          (c.machine.ensures.is_replay v at)) some (rw c.as_slice.ensures.value at (c.in-Ok.ensures.is_change v at))),
      moves,
    ))

pub returns-in-Err : goal.returns-in-Err
returns-in-Err g c = let some : 0 < length c.watched_places-places.result.items = grind (arith, nat_tests) in
    performs-rejected c.args.session.now change_answer
    c.reject-in-Err.ensures.written c.reject-in-Err.ensures.performed c.in-Err.ensures.unchanged
    (λ v at. change-none v c.watched_places-places.result.items (c.watched_places-places.ensures.value
    ∙ ap (λ (m : Machine). map watched_place (watches_of m)) (c.machine.ensures.is_replay v at)) some
    (rw c.as_slice.ensures.value at (c.in-Err.ensures.no_change v at)))
