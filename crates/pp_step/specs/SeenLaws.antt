-- The pairs of a processor's step, at places of the machine.
use Rattle.std.proofs.Common.{ℕ, ◌≡◌, [], ◌∷◌, Bool, false, Option, Some, None, arith}
use Rattle.pp_machine.specs.Machine.{lookup as machine_lookup, same_place as same_machine_place}
use Rattle.pp_machine.specs.{Writes.Writes, Writes.renamed, declared.place.Place.Place}
use Rattle.pp_step.specs.{Seen.same_place, Seen.seen_by, Seen.lookup_seen, View.PpPlace, View.pp_place}

abbrev same_seen : PpPlace → Option PpPlace → Bool
same_seen x None = false
same_seen x (Some y) = same_place x y

-- a place of the processor is a place of the machine exactly if the processor sees the latter as the former
same-seen : (n : ℕ) (x : PpPlace) (p : Place) → same_machine_place (pp_place n x) p ≡ same_seen x (seen_by n p)
same-seen n _ _ = grind arith

-- the number in a processor's list for a place of the machine
pub lookup-seen : (n : ℕ) (ws : Writes PpPlace) (p : Place)
    → machine_lookup (renamed (pp_place n) ws) p ≡ lookup_seen ws (seen_by n p)
lookup-seen n [] p = grind arith
lookup-seen n (w ∷ ws) p = grind (arith, same-seen n w.0 p, lookup-seen n ws p)
