use Rattle.std.proofs.Common.{◌≡◌, ◌≤◌, ◌+◌, length, All}
use Rattle.arrayvec.specs.ArrayVec.{array_vec_len}
use Rattle.pp_lines.specs.Words.{words}
use Rattle.pp_command.specs.Numbers.{numbers}
use Rattle.pp_command.proofs.NumberLists.{with_front}
use Rattle.pp_command.proofs.settings.cell_values.Given as goal

abbrev pub invariant-words : goal.invariant-words
invariant-words l = record {
  read : with_front l.values.items (numbers 0o7777 (words l.rest)) ≡ numbers 0o7777 (words l.text);
  counted : array_vec_len l.values + length (words l.rest) ≡ length (words l.text);
  small : All (λ value. value ≤ 0o7777) l.values.items;
}

abbrev pub decreases-words : goal.decreases-words
decreases-words l = length l.rest
