use Rattle.std.proofs.Common.{◌≡◌, ◌<◌, ◌^◌, take}
use Rattle.pp_notation.specs.Digits.{number_of_codes}
use Rattle.pp_source.specs.Texts.{filled}
use Rattle.pp_source.proofs.texts.DisplayText.number.Given as goal

abbrev pub invariant-loop-index : goal.invariant-loop-index
invariant-loop-index l = record {
  read : l.number ≡ number_of_codes (take l.index (filled l.size l.self.kind l.self.count l.self.symbols.now));
  within : l.number < 2 ^ 63;
}
