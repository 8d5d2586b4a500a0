use Rattle.std.proofs.Common.{◌≡◌, length}
use Rattle.std.specs.List.{list_all}
use Rattle.pp_files.specs.Rows.{is_number}
use Rattle.pp_lines.specs.Words.{words}
use Rattle.pp_files.proofs.rows.are_numbers.Given as goal

abbrev pub invariant-words : goal.invariant-words
invariant-words l = list_all is_number (words l.rest) ≡ list_all is_number (words l.text)

abbrev pub decreases-words : goal.decreases-words
decreases-words l = length l.rest
