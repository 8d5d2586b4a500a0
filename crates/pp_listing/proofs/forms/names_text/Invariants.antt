use Rattle.std.proofs.Common.{◌≡◌, take}
use Rattle.std.specs.List.{flat_map}
use Rattle.pp_listing.specs.Texts.{name_line}
use Rattle.pp_listing.proofs.forms.names_text.Given as goal

abbrev pub invariant-loop-symbol : goal.invariant-loop-symbol
invariant-loop-symbol l = l.out.items ≡ flat_map (name_line l.made.symbols.text.items)
    (take l.symbol-index l.made.symbols.all.items)
