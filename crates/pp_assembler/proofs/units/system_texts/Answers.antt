use Rattle.pp_assembler.specs.Meaning.{AreOfSystem}
use Rattle.pp_assembler.proofs.Pairs.{push_taken}
use Rattle.pp_assembler.proofs.units.system_texts.Goals as goal

pub loop-text-preserved : goal.loop-text-preserved
loop-text-preserved c =
    rw c.in_ok-push.ensures.items
    (push_taken (AreOfSystem c.args.lines.now) c.loop-text.texts.items c.deref-text-items.result.now
    c.args.pass.now.scope.output.systems.items
    c.loop-text.text-index c.in_ok-made.made c.text-item.result _ c.text-item.is c.deref-text-items.ensures.value
    c.loop-text-test.true c.loop-text.invariant c.in_ok-made.ensures)
