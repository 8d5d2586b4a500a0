use Rattle.std.proofs.Common.{◌≡◌, ◌++◌, take}
use Rattle.pp_loading.specs.Inner.Rows.{words_text}
use Rattle.pp_loading.proofs.lines.put_cells.Given as goal

abbrev pub invariant-loop-cell : goal.invariant-loop-cell
invariant-loop-cell l = l.text.items ≡ l.initial.text.items ++ words_text (take l.cell-index l.row)
