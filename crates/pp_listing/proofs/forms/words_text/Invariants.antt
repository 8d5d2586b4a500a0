use Rattle.std.proofs.Common.{◌≡◌, ◌++◌, take}
use Rattle.pp_listing.specs.Texts.{cell_lines}
use Rattle.pp_listing.proofs.forms.words_text.Given as goal

abbrev pub invariant-loop-cell : goal.invariant-loop-cell
invariant-loop-cell l = l.out.items ≡ cell_lines (take l.cell-index l.cells)
