use Rattle.std.proofs.Common.{take}
use Rattle.pp_decks.specs.Decks.{AreOf}
use Rattle.pp_decks.proofs.lines.read_lines.Given as goal

abbrev pub invariant-loop-index : goal.invariant-loop-index
invariant-loop-index l = AreOf (take l.index l.texts) l.decks.all.items
