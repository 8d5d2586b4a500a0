use Rattle.std.proofs.Common.{rules}
use Rattle.pp_console.proofs.Fitting.{fault_fits, tried}
use Rattle.pp_console.specs.Refusals.{fault_text}
use Rattle.pp_console.proofs.answering.answer_fault.Goals as goal

pub returns : goal.returns
returns c =
    let settles = rw c.count-before.ensures.count at c.settle.ensures in
    let attempt = tried c.args.room.now c.reject-written.new.out c.settle.new.room c.fault_text.result.now c.reject-written.result
    c.settle.result
    c.requires c.reject-written.ensures.written.text c.reject-written.ensures.written.counts settles in
    record {
      same = attempt.same;
      fits = rw (← c.fault_text.ensures) (fault_fits c.args.room.now c.reject-written.new.out c.settle.new.room
          c.fault_text.result.now c.reject-written.result c.settle.result attempt settles c.reject-written.ensures.performed);
    }
