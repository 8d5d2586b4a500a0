use Rattle.std.proofs.Common.{◌≡◌, ◌+◌, ◌-◌, length, take}
use Rattle.std.specs.List.{suffix_len}
use Rattle.pp_decks.specs.Blanks.{is_among}
use Rattle.pp_decks.proofs.blanks.length_without.Given as goal

abbrev pub invariant-loop-count : goal.invariant-loop-count
invariant-loop-count l = suffix_len (is_among l.ends) l.text ≡ l.count + suffix_len (is_among l.ends) (take (length l.text - l.count) l.text)
