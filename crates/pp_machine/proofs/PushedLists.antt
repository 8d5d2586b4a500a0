-- Lists that are made part by part.
use Rattle.std.proofs.Common.{ap, refl, ℕ, Bool, true, false, List, ◌≡◌, ◌+◌, ◌<◌, ◌++◌, [], ◌∷◌, get_or, length, take}
use Rattle.std.proofs.lemmas.{Grind.common_steps, List.map-append, List.take_more}
use Rattle.pp_machine.specs.Numbering.{place_number}
use Rattle.pp_machine.specs.Olds.{numbered}
use Rattle.pp_machine.specs.Prelude.{Place, Writes, renamed, write_list, write_list-append, written}
use Rattle.pp_machine.specs.declared.place.Write.{Write}

pub renamed-append : {P Q : Type 0} (name : P → Q) (a b : Writes P) → renamed name (a ++ b) ≡ renamed name a ++ renamed name b
renamed-append name [] b = refl
renamed-append name (pair ∷ a) b = ap (λ w. (name pair.0, pair.1) ∷ w) (renamed-append name a b)

pub renamed-written : {P Q : Type 0} (name : P → Q) (is_written : Bool) (p : P) (n : ℕ) (rest : Writes P) →
    renamed name (written is_written p n rest) ≡ written is_written (name p) n [] ++ renamed name rest
renamed-written name false p n rest = refl
renamed-written name true p n rest = refl

pub numbered-append : (a b : Writes Place) → numbered (a ++ b) ≡ numbered a ++ numbered b
numbered-append a b = map-append (λ pair. record { place = place_number pair.0; number = pair.1 }) a b

-- one more place
pub old_more : (ks : List Write) (k : ℕ) (d : Write) → k < length ks →
    numbered (write_list (take (k + 1) ks))
    ≡ numbered (write_list (take k ks)) ++ record { place = place_number (get_or ks k d).place; number = (get_or ks k d).number } ∷ []
old_more ks k d h = rw (take_more ks k d h, write_list-append, map-append) refl

-- what lists that are made part by part need
pub ruleset pushed_lists = (common_steps, write_list-append, renamed-append, renamed-written, numbered-append)
