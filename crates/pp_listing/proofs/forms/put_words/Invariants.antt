use Rattle.std.proofs.Common.{◌≡◌, ◌++◌, codes, take}
use Rattle.std.specs.List.{flat_map}
use Rattle.pp_arith.specs.Octal.{octal_text}
use Rattle.pp_listing.proofs.forms.put_words.Given as goal

abbrev pub invariant-loop-word : goal.invariant-loop-word
invariant-loop-word l = l.out.items ≡ l.initial.out.items ++ flat_map (λ word. codes " " ++ octal_text word 4)
    (take l.word-index l.words)
