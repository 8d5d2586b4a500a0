use Rattle.std.proofs.Common.{◌++◌}
use Rattle.pp_source.specs.Index.{number_of, numbers_in}
use Rattle.pp_source.specs.Names.{has_key_at}
use Rattle.pp_source.proofs.Walks.{IsWalk}
use Rattle.pp_source.proofs.symbols.Symbols.index_of.Given as goal

abbrev pub invariant-loop-turn : goal.invariant-loop-turn
invariant-loop-turn l =
    IsWalk (has_key_at l.self l.prefix l.name) (numbers_in l.self.text.items l.self.all.items) (number_of (l.prefix ++ l.name)) l._turn
    l.next
