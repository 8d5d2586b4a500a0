use Rattle.std.proofs.Common.{◌≡◌, ◌∙◌, ◌+◌, ◌*◌, ap, rules, sym}
use Rattle.pp_meaning.proofs.TextNumbers.{codes_more}
use Rattle.pp_meaning.proofs.texts.with_more_codes.Goals as goal

pub loop-count-preserved : goal.loop-count-preserved
loop-count-preserved c =
    let product : c.in_ok-checked_mul.field-0 ≡ c.loop-count.number * 0o100 = search rules in
    let total : c.in_ok-number.number ≡ c.in_ok-checked_mul.field-0 + c.args.code = search rules in
    total ∙ ap (λ n. n + c.args.code) (product ∙ ap (λ n. n * 0o100) c.loop-count.invariant)
    ∙ sym (codes_more c.args.first c.loop-count._count c.args.code)
