use Rattle.std.proofs.Common.{◌<◌, length, arith}
use Rattle.pp_library.proofs.Assemblies.{not_both, one_more, twice}
use Rattle.pp_library.proofs.assembling.have_own_addresses.Goals as goal

pub returns-then-has_address : goal.returns-then-has_address
returns-then-has_address c =
    let below : c.loop-k.k < length c.args.cells.now = omega arith in (
      λ wrong i j d before after same. cc,
      λ each. absurd (twice c.args.cells.now _ c.loop-k.k _ below (grind arith) (c.has_address.ensures.0 c.if-has_address.true)
          each),
    )

pub loop-k-preserved : goal.loop-k-preserved
loop-k-preserved c =
    let below : c.loop-k.k < length c.args.cells.now = omega arith in
    one_more c.args.cells.now _ c.loop-k.k _ below (grind arith)
    (λ any. not_both c.has_address.result (c.has_address.ensures.1 any) c.if-has_address.false) c.loop-k.invariant
