use Rattle.std.proofs.Common.{◌≡◌, ◌++◌, take}
use Rattle.std.specs.List.{flat_map}
use Rattle.pp_meaning.specs.Lines.{factor_text}
use Rattle.pp_meaning.specs.Qualifiers.{names_in}
use Rattle.pp_meaning.proofs.lines.put_factors.Given as goal

abbrev pub invariant-loop-factor : goal.invariant-loop-factor
invariant-loop-factor l =
    l.out.items ≡ l.initial.out.items ++ flat_map (factor_text (names_in l.scope)) (take l.factor-index l.factors)
