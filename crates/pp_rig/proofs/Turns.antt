-- What a turn leaves unchanged.
use Rattle.pp_rig.proofs.Names.{arith, ◌≡◌, subst, Machine, over, EachPart, pp_place, pp_writes, all-laws, each-append, pp_of}
use Rattle.pp_rig.proofs.Names.{processor_step, turn, turn_parts, device_parts, end_parts}
use Rattle.pp_machine.proofs.{DevicesLaws.watches-over, Parts.kept-after}
use Rattle.pp_rig.proofs.Devices.{by_models}

-- no turn changes which places are watched
pub turn-watches : (m : Machine) → (turn m).watches ≡ m.watches
unfolding turn
turn-watches m =
    let m1 = over m (processor_step m) in
    kept-after (λ s. s.watches) turn_parts m
    (subst (λ parts. EachPart (λ part s. (over s (part s)).watches ≡ s.watches) parts m) by_models (
      watches-over (pp_place m.slot) (λ s p v. grind arith) m (pp_writes (pp_of m.slot m)),
      each-append (λ part s. (over s (part s)).watches ≡ s.watches) device_parts end_parts m1 (all-laws.watches m1)
          (grind arith),
    ))
