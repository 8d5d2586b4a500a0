use Rattle.pp_assembler.specs.Meaning.{ArePerformed}
use Rattle.pp_assembler.proofs.Pairs.{push_one}
use Rattle.pp_assembler.proofs.units.units_of.Goals as goal

pub loop-layout-preserved : goal.loop-layout-preserved
loop-layout-preserved c =
    rw c.in_ok-push.ensures.items
    (push_one (ArePerformed c.args.lines.now c.args.rows.now) c.loop-layout.units.items c.in_ok-unit.unit c.loop-layout.invariant
    c.in_ok-unit.ensures)
