use Rattle.std.proofs.Common.{ℕ, ◌<◌, map}
use Rattle.pp_decks.specs.Cuts.{IsCut}
use Rattle.pp_decks.specs.Places.{text_in}
use Rattle.pp_decks.proofs.cuts.are_cut.Given as goal

abbrev pub invariant-loop-at : goal.invariant-loop-at
invariant-loop-at l = (at : ℕ) → at < l.at → IsCut l.lines (map (text_in l.source) l.spans) l.own at
