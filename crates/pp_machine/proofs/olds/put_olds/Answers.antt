use Rattle.std.proofs.Common.{◌≡◌, ◌∙◌, ◌+◌, ◌<◌, ◌++◌, ◌∷◌, [], ap, append_assoc, arith, get_or, length, sym, take}
use Rattle.pp_machine.proofs.PushedLists.{old_more}
use Rattle.pp_machine.specs.Numbering.{place_number}
use Rattle.pp_machine.specs.Olds.{numbered}
use Rattle.pp_machine.specs.Prelude.{write_list}
use Rattle.pp_machine.specs.declared.olds.Old.{Old}
use Rattle.pp_machine.specs.declared.place.Write.{Write}
use Rattle.pp_machine.specs.declared.place.Place.TheVariants.{Cell}
use Rattle.pp_machine.proofs.olds.put_olds.Goals as goal

pub loop-k-preserved : goal.loop-k-preserved
loop-k-preserved c =
    let d : Write = record { place = Cell 0 0; number = 0 } in
    let pairs = c.args.pairs.now in
    let k = c.loop-k.k in
    let more : k < length pairs = c.loop-k-test.true in
    let pair = get_or pairs k d in
    let old : Old = record { place = place_number pair.place; number = pair.number } in
    let front = take c.args.used c.args.olds.now in
    let count : c.args.used + (k + 1) ≡ c.put_old.result = omega (arith, c.put_old.ensures.count) in
    rw count (c.put_old.ensures.items)
    ∙ ap (λ olds. olds ++ old ∷ []) c.loop-k.invariant ∙ append_assoc front (numbered (write_list (take k pairs))) (old ∷ [])
    ∙ ap (λ olds. front ++ olds) (sym (old_more pairs k d more))
