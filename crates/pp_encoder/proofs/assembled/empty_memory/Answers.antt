use Rattle.std.proofs.Common.{◌≡◌, ◌∙◌, None, ap, arith, replicate}
use Rattle.pp_encoder.proofs.assembled.empty_memory.Goals as goal

pub returns : goal.returns
returns c =
    let all : c.loop-count._count ≡ 4096 = omega (arith, c.loop-count.auto._count-end, c.loop-count-test.false) in
    c.loop-count.invariant ∙ ap (λ n. replicate n None) all
