use Rattle.std.proofs.Common.{◌≡◌, ◌++◌, length}
use Rattle.pp_listing.specs.Listing.{further_lines}
use Rattle.pp_listing.proofs.listing.put_row.Given as goal

abbrev pub invariant-loop-words : goal.invariant-loop-words
invariant-loop-words l = l.out.items ++ further_lines l.next l.words ≡ l.initial.out.items ++ further_lines l.initial.next
    l.initial.words

abbrev pub decreases-loop-words : goal.decreases-loop-words
decreases-loop-words l = length l.words
