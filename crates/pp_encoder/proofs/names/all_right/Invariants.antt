use Rattle.std.proofs.Common.{◌≡◌, drop, true}
use Rattle.std.specs.List.{AllByRecursion}
use Rattle.pp_meaning.specs.Names.{is_full_name}
use Rattle.pp_encoder.proofs.names.all_right.Given as goal

abbrev pub invariant-loop-symbol : goal.invariant-loop-symbol
invariant-loop-symbol l = AllByRecursion (λ symbol. is_full_name symbol.name.items ≡ true) (drop l.symbol-index l.symbols) →
    AllByRecursion (λ symbol. is_full_name symbol.name.items ≡ true) l.symbols
