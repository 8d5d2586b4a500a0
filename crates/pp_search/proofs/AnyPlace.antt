-- One of some places, one after another.
use Rattle.std.proofs.Common.{◌≡◌, ℕ, suc, ◌+◌, ◌-◌, ◌<◌, ◌≤◌, ◌||◌, Bool, false, arith, refl}
use Rattle.std.proofs.lemmas.Bool.Decides.{nat_tests}
use Rattle.pp_machine.specs.Machine.{Machine, number}
use Rattle.pp_machine.specs.Numbering.{place_at}
use Rattle.pp_machine.specs.declared.place.Place.{Place}
use Rattle.pp_search.specs.Condition.{is_changed, is_of_any}

-- before the first place
pub any_start : (is : Place → Bool) (first count : ℕ) → is_of_any is first count ≡ is_of_any is (first + 0) (count - 0)
any_start is first count =
    let all : count - 0 ≡ count = omega arith in let here : first + 0 ≡ first = omega arith in rw (all, here) refl

-- at one of them
pub any_step : (is : Place → Bool) (first count k : ℕ) → k < count →
    is_of_any is (first + k) (count - k) ≡ (is (place_at (first + k)) || is_of_any is (first + (k + 1)) (count - (k + 1)))
any_step is first count k less =
    let left : count - k ≡ suc (count - (k + 1)) = omega (arith, less) in
    let next : first + k + 1 ≡ first + (k + 1) = omega arith in
    rw (left, next) refl

-- after the last
pub any_end : (is : Place → Bool) (first count k : ℕ) → count ≤ k → is_of_any is (first + k) (count - k) ≡ false
any_end is first count k past = let none : count - k ≡ 0 = omega (arith, past) in rw none refl

pub ruleset any_place = (any_start, any_step, any_end)

-- a number that is the same is not changed
pub unchanged : (old new : Machine) (p : Place) → number old p ≡ number new p → is_changed old new p ≡ false
unchanged old new p same = grind (arith, nat_tests, same)
