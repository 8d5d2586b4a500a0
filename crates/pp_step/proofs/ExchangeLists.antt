-- The places of an exchange, one after another.
use Rattle.std.proofs.Common.{◌≡◌, ℕ, ◌+◌, ◌<◌, Bool, true, false, List, [], ◌∷◌, ◌++◌, drop, get_or, length, refl}
use Rattle.std.proofs.lemmas.List.{drop_more}
use Rattle.pp_machine.specs.Prelude.{Writes, renamed, written}
use Rattle.pp_machine.proofs.PushedLists.{pushed_lists}
use Rattle.pp_step.specs.{Exchange.pairs_from, View.PpPlace, View.pp_place}
use Rattle.std.specs.Prelude.{if◌then◌else◌}

if_written : (is_there : Bool) (n : ℕ) (p : PpPlace) (v : ℕ) (rest : Writes PpPlace) →
    renamed (pp_place n) (if is_there then (p, v) ∷ rest else rest) ≡ written is_there (pp_place n p) v [] ++ renamed (pp_place n) rest
if_written false n p v rest = refl
if_written true n p v rest = refl

-- the next place of a list of numbers
pub pairs_next : (place : ℕ → PpPlace) (is_there : ℕ → Bool) (n i : ℕ) (ws : List ℕ) → i < length ws →
    renamed (pp_place n) (pairs_from place is_there i (drop i ws)) ≡ written (is_there i) (pp_place n (place i)) (get_or ws i 0) []
    ++ renamed (pp_place n) (pairs_from place is_there (i + 1) (drop (i + 1) ws))
pairs_next place is_there n i ws h = rw (drop_more ws i 0 h) (if_written (is_there i) n (place i) (get_or ws i 0) _)

-- what lists of the places of an exchange need
pub ruleset exchange_lists = (pushed_lists, pairs_next)
