use Rattle.std.proofs.Common.{◌≡◌, ◌≤◌, ◌+◌, length}
use Rattle.pp_lines.specs.Words.{words}
use Rattle.pp_command.proofs.settings.count_words.Given as goal

abbrev pub invariant-words : goal.invariant-words
invariant-words l = record {
  counted : l.count + length (words l.rest) ≡ length (words l.text);
  within : l.count + length l.rest ≤ length l.text;
}

abbrev pub decreases-words : goal.decreases-words
decreases-words l = length l.rest
