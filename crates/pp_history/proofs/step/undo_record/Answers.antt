use Rattle.pp_history.proofs.Names.{arith, slice_get-drop}
use Rattle.pp_history.proofs.step.undo_record.Goals as goal

pub returns-in_err-back-in-None : goal.returns-in_err-back-in-None
returns-in_err-back-in-None g c = grind (arith, slice_get-drop c.args.tail c.args.tails.now.ring.items 0 c.args.tail)

pub returns-in-Some-back : goal.returns-in-Some-back
returns-in-Some-back g c = grind (arith, slice_get-drop c.args.tail c.args.tails.now.ring.items 0 c.args.tail)

pub returns-in-None-back : goal.returns-in-None-back
returns-in-None-back g c = grind (arith, slice_get-drop c.args.tail c.args.tails.now.ring.items 0 c.args.tail)
