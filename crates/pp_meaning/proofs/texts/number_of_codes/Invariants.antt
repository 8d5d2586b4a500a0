use Rattle.std.proofs.Common.{◌≡◌, drop}
use Rattle.pp_meaning.specs.Texts.{number_from_codes}
use Rattle.pp_meaning.proofs.texts.number_of_codes.Given as goal

abbrev pub invariant-loop-code : goal.invariant-loop-code
invariant-loop-code l = number_from_codes l.number (drop l.code-index l.codes) ≡ number_from_codes l.first l.codes
