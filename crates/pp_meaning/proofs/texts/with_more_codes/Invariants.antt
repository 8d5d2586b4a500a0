use Rattle.std.proofs.Common.{◌≡◌, replicate}
use Rattle.pp_meaning.specs.Texts.{number_from_codes}
use Rattle.pp_meaning.proofs.texts.with_more_codes.Given as goal

abbrev pub invariant-loop-count : goal.invariant-loop-count
invariant-loop-count l = l.number ≡ number_from_codes l.first (replicate l._count l.code)
