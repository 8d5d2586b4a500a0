use Rattle.std.proofs.Common.{arith, sym}
use Rattle.pp_arguments.proofs.DecimalWords.{decimal_read-unparsed}
use Rattle.pp_arguments.proofs.decimal.read_decimal.Goals as goal

pub returns-in_default : goal.returns-in_default
returns-in_default c = decimal_read-unparsed c.args.word.now c.args.most c.in_default.field-0
    (sym c.if-not-are_digits.ensures) (omega (arith, c.ranges.most)) c.in_default.ensures.value.0
