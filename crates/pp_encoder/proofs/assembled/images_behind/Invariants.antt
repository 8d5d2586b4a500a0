use Rattle.std.proofs.Common.{List, ◌++◌, drop}
use Rattle.pp_meaning.specs.Units.{AreAssembled, known}
use Rattle.pp_meaning.specs.declared.statements.Image.{Image}
use Rattle.pp_encoder.proofs.assembled.images_behind.Given as goal

-- Images of the units to come, behind those so far, are images of all.
abbrev pub invariant-loop-unit : goal.invariant-loop-unit
invariant-loop-unit l = (rest : List Image) → AreAssembled l.symbols (known l.left) (drop l.unit-index l.units) rest →
    AreAssembled l.symbols (known l.fn.before) l.units (l.images.items ++ rest)
