-- The places of an undo record, by their numbers.
use Rattle.std.proofs.Common.{◌≡◌, ◌∙◌, ℕ, zero, suc, ◌+◌, ◌<◌, ◌≤◌, ◌==◌, ◌∷◌, [], Bool, false, true, List, ap, arith, get_or}
use Rattle.std.proofs.Common.{length, refl, sym, take, Option, None, Some, is_some}
use Rattle.std.proofs.lemmas.Bool.{and_parts, eqb-true, false≢true}
use Rattle.std.proofs.lemmas.Bool.Decides.{nat_tests}
use Rattle.std.proofs.lemmas.List.{get_or-take, length-take}
use Rattle.pp_machine.specs.Machine.{Machine, number, same_place}
use Rattle.pp_machine.specs.Numbering.{place_at, place_number}
use Rattle.pp_machine.specs.Olds.{numbered}
use Rattle.pp_machine.specs.Prelude.{Writes, lookup}
use Rattle.pp_machine.specs.declared.olds.Old.{Old}
use Rattle.pp_machine.specs.declared.place.Place.{Place}
use Rattle.pp_machine.specs.declared.place.Place.TheVariants.{Cell, Slot}
use Rattle.pp_search.proofs.AnyPlace.{unchanged}
use Rattle.pp_search.specs.Condition.{is_changed, is_of_any, is_written}

pub number_at : (i : ℕ) → place_number (place_at i) ≡ i
unfolding place_at
number_at i = grind (arith, nat_tests)

equal : (x y : Place) → same_place x y ≡ true → x ≡ y
equal Slot Slot e = refl
equal _ Slot e = cc
equal (Cell n a) (Cell k b) e = let both = and_parts (n == k) (a == b) e in search eqb-true
equal _ _ e = search (eqb-true, false≢true)

-- a place that is written is in the list
abbrev IsListedAt : Writes Place → Place → ℕ → Type 0
IsListedAt ws p j = (j < length (numbered ws)) × ((d : Old) → (get_or (numbered ws) j d).place ≡ place_number p)

in_rest : (w : Place × ℕ) (ws : Writes Place) (p : Place) (same : Bool) → same_place w.0 p ≡ same → is_written (w ∷ ws) p ≡ true →
    (is_written ws p ≡ true → (j : ℕ) × IsListedAt ws p j) → (j : ℕ) × IsListedAt (w ∷ ws) p j
in_rest w ws p true is has later = (0, (omega arith, λ d. ap place_number (equal w.0 p is)))
in_rest w ws p false is has later =
    let (j, listed) = later (rw is at has) in (suc j, (omega (arith, listed.0), listed.1))

pub in_list : (ws : Writes Place) (p : Place) → is_written ws p ≡ true → (j : ℕ) × IsListedAt ws p j
in_list [] p is = absurd (cc)
in_list (w ∷ ws) p is = in_rest w ws p (same_place w.0 p) refl is (in_list ws p)

-- it is so of one of some places
pub some_of_any : (is : Place → Bool) (first count k : ℕ) → k < count → is (place_at (first + k)) ≡ true →
    is_of_any is first count ≡ true
some_of_any is first zero k less here = absurd (omega (arith, less))
some_of_any is first (suc count) zero less here = let all : first + 0 ≡ first = omega arith in let at = rw all at here in rw at refl
some_of_any is first (suc count) (suc k) less here =
    let next : first + suc k ≡ first + 1 + k = omega arith in
    let later = some_of_any is (first + 1) count k (omega (arith, less)) (rw next at here) in grind (arith, later)

-- it is so of none of them
pub none_of_any : (is : Place → Bool) (first count : ℕ) → ((k : ℕ) → k < count → is (place_at (first + k)) ≡ false) →
    is_of_any is first count ≡ false
none_of_any is first zero none = refl
none_of_any is first (suc count) none =
    let all : first + 0 ≡ first = omega arith in
    let here = rw all at (none 0 (omega arith)) in
    let rest = none_of_any is (first + 1) count
    (λ k less. let next : first + 1 + k ≡ first + (k + 1) = omega arith in rw next (none (k + 1) (omega (arith, less)))) in
    grind (arith, here, rest)

-- ---- changed numbers are among those that are written

no_number : (found : Option ℕ) → is_some found ≡ false → found ≡ None
no_number None is = refl
no_number (Some n) is = absurd (cc)

module _ (pairs : Writes Place) (olds : List Old) (used : ℕ) (old new : Machine) (first count : ℕ)
    (lists : take used olds ≡ numbered pairs)
    (same : (p : Place) → lookup pairs p ≡ None → number old p ≡ number new p)
    (none : (j : ℕ) → j < used → (d : Old) → first ≤ (get_or olds j d).place → (get_or olds j d).place < first + count →
    is_changed old new (place_at (get_or olds j d).place) ≡ false) where
  listed : (d : Old) (k j : ℕ) → k < count → IsListedAt pairs (place_at (first + k)) j →
      is_changed old new (place_at (first + k)) ≡ false
  listed d k j within (less, at) =
      let front : j < used = omega (arith, less, ap length lists, length-take used olds) in
      let here : (get_or olds j d).place ≡ first + k =
      ap (λ (x : Old). x.place) (sym (get_or-take used olds j d front) ∙ ap (λ (xs : List Old). get_or xs j d) lists) ∙ at d ∙
      number_at (first + k) in
      rw here at (none j front d (omega (arith, here)) (omega (arith, here, within)))

  by_record : (k : ℕ) (is : Bool) → k < count → is_written pairs (place_at (first + k)) ≡ is →
      is_changed old new (place_at (first + k)) ≡ false
  by_record k true within is =
      let (j, at) = in_list pairs (place_at (first + k)) is in listed (record { place = 0; number = 0 }) k j within at
  by_record k false within is = unchanged old new _ (same _ (no_number _ is))

  pub none_listed : is_of_any (is_changed old new) first count ≡ false
  none_listed = none_of_any (is_changed old new) first count (λ k less. by_record k _ less refl)
