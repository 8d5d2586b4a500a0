use Rattle.std.proofs.Common.{◌≡◌, drop, fold, Some}
use Rattle.pp_meaning.specs.Units.{known, nothing_known, with_system}
use Rattle.pp_encoder.proofs.assembled.after_systems.Given as goal

abbrev pub invariant-loop-text : goal.invariant-loop-text
invariant-loop-text l =
    fold (with_system l.symbols) (Some (known l.left)) (drop l.text-index l.systems)
    ≡ fold (with_system l.symbols) (Some nothing_known) l.systems
