use Rattle.std.proofs.Common.{◌≡◌, length}
use Rattle.std.specs.List.{list_all}
use Rattle.pp_arith.specs.Octal.{is_octal}
use Rattle.pp_lines.specs.Words.{words}
use Rattle.pp_lines.proofs.words.are_octal.Given as goal

abbrev pub invariant-words : goal.invariant-words
invariant-words l = list_all is_octal (words l.rest) ≡ list_all is_octal (words l.text)

abbrev pub decreases-words : goal.decreases-words
decreases-words l = length l.rest
