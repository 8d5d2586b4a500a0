use Rattle.std.proofs.Common.{◌++◌, ◌∙◌, ap}
use Rattle.pp_decks.specs.Cuts.{continued, first_part}
use Rattle.pp_decks.specs.Places.{text_in}
use Rattle.pp_decks.proofs.CutTexts.{flat_map_of_all}
use Rattle.pp_decks.proofs.cuts.with_others.Goals as goal

pub returns : goal.returns
returns c =
    c.loop-span.invariant
    ∙ ap (λ more. first_part c.args.line.now ++ more)
    (flat_map_of_all (λ span. continued (text_in c.args.source.now span)) c.args.others.now c.loop-span.span-index c.loop-span-test.false)
