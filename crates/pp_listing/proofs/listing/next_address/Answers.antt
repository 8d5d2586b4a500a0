use Rattle.std.proofs.Common.{◌∙◌, ◌+ℤ◌, ap, arith, pos, rules, w64}
use Rattle.std.proofs.lemmas.Int.{to_z-of_z, wrapping_add-bits}
use Rattle.std.specs.Int.{int_wrap}
use mir.Val.{of_z}
use Rattle.pp_listing.proofs.listing.next_address.Goals as goal

pub returns : goal.returns
returns c = wrapping_add-bits w64 (of_z w64 c.args.address) 2 (search rules) (omega arith)
    ∙ ap (λ address. int_wrap w64 (address +ℤ pos 2)) (to_z-of_z w64 c.args.address c.ranges.address)
