use Rattle.std.proofs.Common.{ℕ, ◌≡◌, ◌<◌, false, get_or, map, []}
use Rattle.pp_assembler.specs.DeckLines.{is_endx}
use Rattle.pp_decks.specs.Places.{text_in}
use Rattle.pp_assembler.proofs.deck_lines.end_of.Given as goal

abbrev pub invariant-loop-index : goal.invariant-loop-index
invariant-loop-index l = (at : ℕ) → at < l.index → is_endx (get_or (map (text_in l.text) l.spans) at []) ≡ false
