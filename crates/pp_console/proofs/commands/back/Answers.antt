use Rattle.std.proofs.Common.{append-nil}
use Rattle.pp_history.specs.SessionValue.{after_back}
use Rattle.pp_console.specs.{Watches.hit_text, Commands.back_answer}
use Rattle.pp_console.proofs.Performing.{performs-answered, back-within}
use Rattle.pp_console.proofs.commands.back.Goals as goal

pub returns-in-Ok : goal.returns-in-Ok
unfolding hit_text
returns-in-Ok g c = performs-answered c.args.session.now (back_answer c.args.actions)
    c.write_moved.ensures.written c.write_moved.ensures.performed
    (λ v at. let moves = c.in-Ok.ensures.moves v at in (
      after_back v c.args.actions,
      rw (append-nil, c.slot.ensures.value, c.machine.ensures.is_replay _ moves)
          (back-within c.args.actions v (c.in-Ok.ensures.has_enough v at)),
      moves,
    ))
