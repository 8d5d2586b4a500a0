use denote.Param.Always.{always_mut}
use Rattle.pp_source.proofs.symbols.Symbols.renew.Given as goal

abbrev pub invariant-loop-at : goal.invariant-loop-at
invariant-loop-at g l = always_mut g.F.FnMut l.initial.meanings → always_mut g.F.FnMut l.meanings
