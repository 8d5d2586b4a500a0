use Rattle.std.proofs.Common.{arith, sym}
use Rattle.std.proofs.lemmas.List.{get_or_past}
use Rattle.pp_notation.specs.DisplayCode.{display_code}
use Rattle.pp_meaning.proofs.texts.symbol_or_zero.Goals as goal

pub returns-else-code-lt-CODES : goal.returns-else-code-lt-CODES
returns-else-code-lt-CODES c = sym (get_or_past display_code c.args.code 0 (omega (arith, c.if-code-lt-CODES.false)))
