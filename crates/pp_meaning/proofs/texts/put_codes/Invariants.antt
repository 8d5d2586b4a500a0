use Rattle.std.proofs.Common.{◌≡◌, ◌++◌, map, take}
use Rattle.pp_notation.specs.DisplayCode.{symbol}
use Rattle.pp_meaning.proofs.texts.put_codes.Given as goal

abbrev pub invariant-loop-code : goal.invariant-loop-code
invariant-loop-code l = l.out.items ≡ l.initial.out.items ++ map symbol (take l.code-index l.codes)
