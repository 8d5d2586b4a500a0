-- The ranges of a line and those of a machine, which differ in central memory alone; and the tests of these ranges.
use Rattle.std.proofs.Common.{◌≡◌, ◌<◌, ◌≤◌, ◌&&◌, ℕ, List, All, nat_lt, nat_le, true, arith, refl}
use Rattle.std.specs.{Bool.Decides, List.list_all}
use Rattle.std.proofs.lemmas.Bool.Decides.{nat_tests, Decides-by_and}
use Rattle.pp_command.specs.Ranges.{CanBeAsked, IsActionInRange, IsPlaceInRange, IsPlaceWithin, IsWithin, most_central_words}
use Rattle.pp_actions.specs.{Admitting.is_in_range, Admitting.is_watchable, declared.action.Action.Action}
use Rattle.pp_machine.specs.Ranges.{past_sixty_bits}
use Rattle.pp_actions.specs.declared.action.Action.TheVariants.{SetWord, Watch, Unwatch}
use Rattle.pp_actions.specs.declared.watched.Watched.{Watched, TheVariants.Central}

-- ---- another size of central memory

place_admitted : (size : ℕ) (w : Watched) → IsPlaceInRange w → IsPlaceWithin size w → is_watchable size w ≡ true
place_admitted size w h k = grind (arith, nat_tests)

place_asked : (size : ℕ) (w : Watched) → size ≤ most_central_words → is_watchable size w ≡ true → IsPlaceInRange w
place_asked size w most h = grind (arith, nat_tests)

place_within : (size : ℕ) (w : Watched) → is_watchable size w ≡ true → IsPlaceWithin size w
place_within size w h = grind (arith, nat_tests)

pub admitted : (size : ℕ) (action : Action) → IsActionInRange action → IsWithin size action → is_in_range size action ≡ true
admitted size (SetWord a v) h k = grind (arith, nat_tests)
admitted size (Watch w) h k = place_admitted size w h.1 k
admitted size (Unwatch w) h k = place_admitted size w h.1 k
admitted size action h k = h.1

pub asked : (size : ℕ) (action : Action) → size ≤ most_central_words →
    CanBeAsked action → is_in_range size action ≡ true → IsActionInRange action
asked size (SetWord a v) most can h = grind (arith, nat_tests)
asked size (Watch w) most can h = (tt, place_asked size w most h)
asked size (Unwatch w) most can h = (tt, place_asked size w most h)
asked size action most can h = (can, h)

pub within : (size : ℕ) (action : Action) → is_in_range size action ≡ true → IsWithin size action
within size (SetWord a v) h = grind (arith, nat_tests)
within size (Watch w) h = place_within size w h
within size (Unwatch w) h = place_within size w h
within size action h = tt

-- ---- the words of SET M

pub are_words : (values : List ℕ) → All (λ v. v ≤ 0o7777) values → list_all (λ v. nat_le v 0o7777) values ≡ true
are_words values = (Decides-by_and (λ v. nat_le v 0o7777) (λ v. v ≤ 0o7777) (list_all (λ v. nat_le v 0o7777))
    (λ v. (λ h. grind (arith, nat_tests), λ h. grind (arith, nat_tests))) refl (λ _ _. refl) values).1
