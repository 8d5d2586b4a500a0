use Rattle.std.proofs.Common.{◌≡◌, ◌∙◌, ap, ◌<◌, ◌≤◌, ◌^◌, ℕ, ◌+◌, ◌*◌, ◌%◌, arith}
use Rattle.pp_arith.specs.Words60.{split60}
use Rattle.pp_arith.proofs.FiveParts.{part, parts_back}
use Rattle.pp_arith.proofs.words60.join60.Goals as goal

pub returns-clause-splits : goal.returns-clause-splits
returns-clause-splits c =
    let parts = c.args.parts.now in
    let small : (k : ℕ) → k < 5 → part parts k ≤ 0o7777 = λ k h. c.requires.parts_in k 0 (omega (arith, c.told-parts)) in
    let word : c.from.result * 2 ^ 48 % 2 ^ 64 + c.from-2.result * 2 ^ 36 % 2 ^ 64
    + c.from-3.result * 2 ^ 24 % 2 ^ 64 + c.from-4.result * 2 ^ 12 % 2 ^ 64 + c.from-5.result
    ≡ part parts 0 * 2 ^ 48 + part parts 1 * 2 ^ 36 + part parts 2 * 2 ^ 24 + part parts 3 * 2 ^ 12 + part parts 4 =
    omega (arith, small 0 (omega arith), small 1 (omega arith), small 2 (omega arith), small 3 (omega arith)) in
    ap split60 word ∙ parts_back parts c.told-parts small
