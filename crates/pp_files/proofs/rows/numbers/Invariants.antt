use Rattle.std.proofs.Common.{◌≡◌, ◌≤◌, ◌<◌, ◌++◌, true, length, map, All}
use Rattle.std.specs.List.{list_all}
use Rattle.pp_lines.specs.Words.{words}
use Rattle.pp_arith.specs.Octal.{octal_value}
use Rattle.pp_files.specs.Rows.{is_number}
use Rattle.pp_files.proofs.rows.numbers.Given as goal

abbrev pub invariant-words : goal.invariant-words
invariant-words g l = record {
  read : l.row.items ++ map octal_value (words l.rest) ≡ map octal_value (words l.text);
  rest : list_all is_number (words l.rest) ≡ true;
  short : length l.row.items ≤ g.row.ROOM;
  within : All (λ value. value < 4096) l.row.items;
}

abbrev pub decreases-words : goal.decreases-words
decreases-words g l = length l.rest
