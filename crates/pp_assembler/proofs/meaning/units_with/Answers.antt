use Rattle.std.proofs.Common.{rules}
use Rattle.pp_assembler.proofs.Pairs.{push_program}
use Rattle.pp_assembler.proofs.meaning.units_with.Goals as goal

pub loop-image-preserved : goal.loop-image-preserved
loop-image-preserved c =
    rw c.in_ok-push.ensures.items
    (push_program c.loop-image.units.items c.args.images.now c.loop-image.image-index c.in-Some.unit c.image-item.result _
    c.image-item.is c.loop-image-test.true c.loop-image.invariant (search rules, search rules))
