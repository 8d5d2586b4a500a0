use Rattle.std.proofs.Common.{◌≡◌, ◌++◌, codes, take}
use Rattle.std.specs.List.{flat_map}
use Rattle.pp_arith.specs.Octal.{octal_text}
use Rattle.pp_listing.proofs.listing.put_words.Given as goal

abbrev pub invariant-loop-word : goal.invariant-loop-word
invariant-loop-word l = l.text.items ≡ flat_map (λ word. octal_text word 4 ++ codes " ") (take l.word-index l.word-items)
