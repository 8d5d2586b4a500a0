use Rattle.std.proofs.Common.{arith, refl}
use Rattle.pp_console.specs.Commands.{central_answer}
use Rattle.pp_console.proofs.Performing.{performs-rejected, central-beyond}
use Rattle.pp_console.proofs.commands.dump_central.Goals as goal

pub returns-then-last-words : goal.returns-then-last-words
returns-then-last-words g c = performs-rejected c.args.session.now (central_answer c.args.first c.args.last)
    c.reject.ensures.written c.reject.ensures.performed refl
    (λ v at. rw c.fault_text.ensures
    (central-beyond c.args.first c.args.last v c.machine.result.now (c.machine.ensures.is_replay v at) (omega arith)))
