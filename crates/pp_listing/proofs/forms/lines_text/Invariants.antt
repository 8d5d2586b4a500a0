use Rattle.std.proofs.Common.{◌≡◌, take}
use Rattle.std.specs.List.{flat_map}
use Rattle.pp_listing.specs.Texts.{row_line}
use Rattle.pp_listing.proofs.forms.lines_text.Given as goal

abbrev pub invariant-loop-row : goal.invariant-loop-row
invariant-loop-row l = l.out.items ≡ flat_map (row_line l.made) (take l.row-index l.made.rows.items)
