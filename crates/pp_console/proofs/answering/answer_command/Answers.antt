use Rattle.std.proofs.{Common.arith, Common.refl, Common.rules, lemmas.Result.IfOk-weaker}
use Rattle.pp_console.proofs.Fitting.{command_settled, same_length, tried}
use Rattle.pp_console.specs.{AnswerRoom.change_room, Answering.HasRoom, Answering.left_in, Commands.present}
use Rattle.pp_console.proofs.answering.answer_command.Goals as goal

pub settle-requires : goal.settle-requires
settle-requires c =
    let (v, at) = c.has_session_value.ensures in
    let same = same_length c.args.room.now c.answer_request-written.new.out _ c.answer_request-written.result
    (c.answer_request-written.ensures.text v at) in
    omega (arith, same, c.count-before.ensures.within)

pub returns-clause-same : goal.returns-clause-same
returns-clause-same c =
    let (v, at) = c.has_session_value.ensures in
    let settles = rw c.count-before.ensures.count at c.settle.ensures in
    let attempt = tried c.args.room.now c.answer_request-written.new.out c.settle.new.room _ c.answer_request-written.result
    c.settle.result
    c.requires (c.answer_request-written.ensures.text v at) c.answer_request-written.ensures.counted settles in attempt.same

pub returns-clause-fits : goal.returns-clause-fits
returns-clause-fits c = λ v at.
    let performs = c.answer_request-written.ensures in
    let settles = rw c.count-before.ensures.count at c.settle.ensures in
    let attempt = tried c.args.room.now c.answer_request-written.new.out c.settle.new.room _ c.answer_request-written.result
    c.settle.result
    c.requires (performs.text v at) performs.counted settles in
    let room : HasRoom (change_room c.args.command.now (present v)) (left_in c.args.room.now) =
    rw (c.request.ensures.value, c.machine.ensures.is_replay v at) at (c.if-not-has_room.ensures.room refl) in
    command_settled c.args.room.now c.answer_request-written.new.out c.settle.new.room c.answer_request-written.new.session v
    c.args.command.now
    c.answer_request-written.result c.settle.result room attempt settles
    (IfOk-weaker c.answer_request-written.result _ _ (λ performed is. is v at) performs.performed) (performs.session v at)
