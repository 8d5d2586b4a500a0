-- A list of `Write` values as a write list.
use Rattle.std.proofs.Common.{ap, ℕ, List, [], ◌∷◌, ◌++◌, ◌≡◌, refl}
use Rattle.pp_machine.specs.Writes.{Writes}
use Rattle.pp_machine.specs.declared.place.Place.{Place}
use Rattle.pp_machine.specs.declared.place.Write.{Write}

-- the most places that one action overwrites
abbrev pub list_room : ℕ
list_room = 76

abbrev pub write_list : List Write → Writes Place
write_list [] = []
write_list (k ∷ ks) = (k.place, k.number) ∷ write_list ks

pub write_list-append : (a b : List Write) → write_list (a ++ b) ≡ write_list a ++ write_list b
write_list-append [] b = refl
write_list-append (k ∷ a) b = ap (λ w. (k.place, k.number) ∷ w) (write_list-append a b)
