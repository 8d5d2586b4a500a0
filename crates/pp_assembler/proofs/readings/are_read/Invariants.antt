use Rattle.std.proofs.Common.{drop}
use Rattle.std.specs.List.{AllByRecursion}
use Rattle.pp_assembler.specs.Decks.{IsRead}
use Rattle.pp_assembler.proofs.readings.are_read.Given as goal

abbrev pub invariant-loop-row : goal.invariant-loop-row
invariant-loop-row l = AllByRecursion (IsRead l.lines l.decks.all.items l.words l.readings) (drop l.row-index l.rows) →
    AllByRecursion (IsRead l.lines l.decks.all.items l.words l.readings) l.rows
