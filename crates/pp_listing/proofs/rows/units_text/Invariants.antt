use Rattle.std.proofs.Common.{◌≡◌, ◌++◌, take}
use Rattle.std.specs.List.{flat_map}
use Rattle.pp_listing.specs.Rows.{program_lines, unit_lines}
use Rattle.pp_listing.proofs.rows.units_text.Given as goal

abbrev pub invariant-loop-unit : goal.invariant-loop-unit
invariant-loop-unit l = l.out.items ≡ program_lines l.made.program ++ flat_map unit_lines (take l.unit-index l.made.others.items)
