-- A walk from the last name with a number to those before it finds the last of all that pass a test, if these have the number.
use Rattle.std.proofs.Common.{◌≡◌, ◌∙◌, ℕ, zero, suc, ◌+◌, ◌<◌, ◌≤◌, Bool, true, false, true≢false, List, Option, Some, None, ap, get_or, length, refl, subst, sym, arith, ⊎_elim}
use Rattle.std.proofs.lemmas.Bool.{cases_Bool, eqb-true}
use Rattle.std.specs.BTreeMap.{BTreeMap}
use Rattle.pp_source.specs.Index.{IsIndex, has_number, last_where}

-- Where a search goes on with a place.
abbrev pub below : Option ℕ → ℕ
below None = 0
below (Some at) = suc at

last_passes : (test : ℕ → Bool) (end : ℕ) → test end ≡ true → last_where test (suc end) ≡ Some end
last_passes test end passes = rw passes refl

last_fails : (test : ℕ → Bool) (end : ℕ) → test end ≡ false → last_where test (suc end) ≡ last_where test end
last_fails test end fails = rw fails refl

-- What passes a test only with another one is looked for where that passes.
narrows : (test other : ℕ → Bool) (end : ℕ) → ((at : ℕ) → at < end → test at ≡ true → other at ≡ true) →
    last_where test end ≡ last_where test (below (last_where other end))
narrows test other zero both = refl
narrows test other (suc end) both =
    ⊎_elim (λ passes. sym (ap (λ found. last_where test (below found)) (last_passes other end passes)))
    (λ fails.
    let neither : test end ≡ false =
    ⊎_elim (λ passes. absurd (true≢false (sym (both end (omega arith) passes) ∙ fails))) (λ no. no) (cases_Bool (test end)) in
    last_fails test end neither ∙ (narrows test other end (λ at within. both at (omega (arith, within)))
    ∙ sym (ap (λ found. last_where test (below found)) (last_fails other end fails))))
    (cases_Bool (other end))

pub is_found : (test : ℕ → Bool) (end at : ℕ) → last_where test end ≡ Some at → (test at ≡ true) × (at < end)
is_found test zero at found = absurd (grind arith)
is_found test (suc end) at found =
    ⊎_elim (λ passes.
    let same : end ≡ at = grind (arith, last_passes test end passes, found) in
    (ap test (sym same) ∙ passes, omega arith))
    (λ fails.
    let rest = is_found test end at (sym (last_fails test end fails) ∙ found) in
    (rest.0, omega (arith, rest.1)))
    (cases_Bool (test end))

pub same_last : (test other : ℕ → Bool) (end : ℕ) → ((at : ℕ) → at < end → test at ≡ other at) → last_where test end ≡ last_where other end
same_last test other zero same = refl
same_last test other (suc end) same =
    let one = same end (omega arith) in
    let rest = same_last test other end (λ at within. same at (omega (arith, within))) in
    rw (one, rest) refl

is_below : (test : ℕ → Bool) (end : ℕ) → below (last_where test end) ≤ end
is_below test zero = omega arith
is_below test (suc end) =
    ⊎_elim (λ passes. rw (last_passes test end passes) (omega arith))
    (λ fails. rw (last_fails test end fails) (omega (arith, is_below test end)))
    (cases_Bool (test end))

-- How far a walk has come after some steps: what it looks for is at the next place or below it.
abbrev pub IsWalk : (ℕ → Bool) → List ℕ → ℕ → ℕ → Option ℕ → Type 0
IsWalk test numbers number steps next =
    (last_where test (length numbers) ≡ last_where test (below next))
    × (below next + steps ≤ length numbers)
    × ((at : ℕ) → next ≡ Some at → has_number numbers number at ≡ true)

module _ (test : ℕ → Bool) (numbers : List ℕ) (number : ℕ) where
  pub begins : ((at : ℕ) → at < length numbers → test at ≡ true → has_number numbers number at ≡ true) → (next : Option ℕ) →
      next ≡ last_where (has_number numbers number) (length numbers) → IsWalk test numbers number 0 next
  begins both next same =
      rw same (
        narrows test (has_number numbers number) (length numbers) both,
        omega (arith, is_below (has_number numbers number) (length numbers)),
        λ at found. (is_found (has_number numbers number) (length numbers) at found).0,
      )

  pub goes_back : (last : BTreeMap ℕ ℕ) (before : List (Option ℕ)) → IsIndex numbers last before →
      ((at : ℕ) → at < length numbers → test at ≡ true → has_number numbers number at ≡ true) → (steps at : ℕ) (from : Option ℕ) →
      from ≡ Some at → IsWalk test numbers number steps from → test at ≡ false → IsWalk test numbers number (steps + 1) (get_or before at None)
  goes_back last before index both steps at from same come fails =
      let walk : IsWalk test numbers number steps (Some at) = subst (IsWalk test numbers number steps) same come in
      let within : at < length numbers = omega (arith, walk.1) in
      let its : get_or numbers at 0 ≡ number = eqb-true (get_or numbers at 0) number (walk.2 at refl) in
      let next : get_or before at None ≡ last_where (has_number numbers number) at =
      index.2 at within ∙ ap (λ (n : ℕ). last_where (has_number numbers n) at) its in
      rw next (
        walk.0 ∙ (last_fails test at fails
            ∙ narrows test (has_number numbers number) at (λ one lower. both one (omega (arith, lower, within)))),
        omega (arith, walk.1, is_below (has_number numbers number) at),
        λ one found. (is_found (has_number numbers number) at one found).0,
      )
