use Rattle.std.proofs.Common.{rules}
use Rattle.pp_meaning.specs.Standing.{standing}
use Rattle.pp_meaning.specs.Units.{known}
use Rattle.pp_encoder.proofs.Units.{all_assembled, assembled_on}
use Rattle.pp_encoder.proofs.assembled.images_behind.Goals as goal

pub loop-unit-preserved : goal.loop-unit-preserved
loop-unit-preserved c =
    rw c.in_ok-push.ensures.items
    (assembled_on c.args.symbols.now (known c.args.before) (known c.loop-unit.left) (known c.parts_of-image.result.1) c.args.units.now
    c.loop-unit.unit-index c.unit-item.result c.loop-unit.images.items c.parts_of-image.result.0 (standing c.in_ok-state.state)
    c.loop-unit.invariant c.loop-unit-test.true c.unit-item.is c.in_ok-state.ensures c.parts_of-image.ensures.image
    c.parts_of-image.ensures.left)

pub returns : goal.returns
returns c =
    all_assembled c.args.symbols.now (known c.args.before) (known c.loop-unit.left) c.args.units.now c.loop-unit.unit-index
    c.loop-unit.images.items c.loop-unit.invariant (search rules) (search rules)
