use Rattle.std.proofs.Common.{◌≡◌, take}
use Rattle.std.specs.List.{flat_map}
use Rattle.pp_listing.specs.Rows.{known_row}
use Rattle.pp_listing.proofs.rows.rows_text.Given as goal

abbrev pub invariant-loop-row : goal.invariant-loop-row
invariant-loop-row l = l.out.items ≡ flat_map (known_row l.made) (take l.row-index l.made.rows.items)
