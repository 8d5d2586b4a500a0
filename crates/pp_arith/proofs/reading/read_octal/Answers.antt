use Rattle.std.proofs.Common.{◌≡◌, ◌<◌, ◌+◌, true, arith}
use Rattle.pp_arith.specs.Octal.{octal_value, is_octal}
use Rattle.pp_arith.proofs.OctalValues.{value-so_far, octal_read-over, value-next}
use Rattle.pp_arith.proofs.reading.read_octal.Goals as goal

pub returns-then-value-max : goal.returns-then-value-max
returns-then-value-max c =
    let word = c.args.word.now in
    let i = c.loop-byte.byte-index in
    let digits : is_octal word ≡ true = cc in
    let next = value-next word i c.loop-byte-test.true in
    let over : c.args.max < octal_value word =
    omega (arith, next, value-so_far word (i + 1), c.loop-byte.invariant.read, c.if-value-max.true, c.from.ensures) in
    octal_read-over word c.args.max digits over
