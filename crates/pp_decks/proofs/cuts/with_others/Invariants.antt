use Rattle.std.proofs.Common.{◌≡◌, ◌++◌, take}
use Rattle.std.specs.List.{flat_map}
use Rattle.pp_decks.specs.Cuts.{continued, first_part}
use Rattle.pp_decks.specs.Places.{text_in}
use Rattle.pp_decks.proofs.cuts.with_others.Given as goal

abbrev pub invariant-loop-span : goal.invariant-loop-span
invariant-loop-span l =
    l.text.items ≡ first_part l.line ++ flat_map (λ span. continued (text_in l.source span)) (take l.span-index l.others)
