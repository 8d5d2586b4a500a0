-- An index with one more name.
use Rattle.std.proofs.Common.{◌≡◌, ◌∙◌, ℕ, suc, ◌+◌, ◌≤◌, ◌==◌, cond, List, [], ◌∷◌, ◌++◌, Option, Some, None, ap, get_or, length, refl, sym, arith, ⊎_elim}
use Rattle.std.proofs.Common.{is_eq, nat_cmp}
use Rattle.std.proofs.lemmas.Bool.{cases_lt}
use Rattle.std.proofs.lemmas.Bool.Decides.{nat_tests}
use Rattle.std.proofs.lemmas.List.{get_or_append_left, get_or-append-add, length-append}
use Rattle.std.specs.BTreeMap.{BTreeMap, Updates, get}
use Rattle.pp_source.specs.Index.{IsIndex, has_number, last_where}
use Rattle.pp_source.proofs.Walks.{same_last}

at_end : {X : Type 0} (xs : List X) (x d : X) → get_or (xs ++ x ∷ []) (length xs) d ≡ x
at_end xs x d =
    let here : length xs ≡ length xs + 0 = omega arith in
    ap (λ (at : ℕ). get_or (xs ++ x ∷ []) at d) here ∙ get_or-append-add xs (x ∷ []) 0 d

is_equal : (a b : ℕ) → is_eq (nat_cmp a b) ≡ (a == b)
is_equal a b = grind (arith, nat_tests)

-- Below the last one nothing is new.
same_below : (numbers : List ℕ) (number wanted end : ℕ) → end ≤ length numbers →
    last_where (has_number (numbers ++ number ∷ []) wanted) end ≡ last_where (has_number numbers wanted) end
same_below numbers number wanted end within =
    same_last (has_number (numbers ++ number ∷ []) wanted) (has_number numbers wanted) end
    (λ at lower. ap (λ (n : ℕ). n == wanted) (get_or_append_left numbers (number ∷ []) 0 at (omega (arith, lower, within))))

with_one_more : (numbers : List ℕ) (number wanted : ℕ) → last_where (has_number (numbers ++ number ∷ []) wanted) (suc (length numbers))
    ≡ cond (number == wanted) (Some (length numbers)) (last_where (has_number numbers wanted) (length numbers))
with_one_more numbers number wanted =
    let new = at_end numbers number 0 in
    let old = same_below numbers number wanted (length numbers) (omega arith) in
    rw (new, old) refl

pub is_added : (numbers : List ℕ) (number : ℕ) (last last' : BTreeMap ℕ ℕ) (before before' : List (Option ℕ)) (at : ℕ) (found : Option ℕ) →
    at ≡ length before → found ≡ get nat_cmp last number → Updates nat_cmp last last' number (Some at) → before' ≡ before ++ found ∷ [] →
    IsIndex numbers last before → IsIndex (numbers ++ number ∷ []) last' before'
is_added numbers number last last' before before' count found behind was update more index =
    let size : length (numbers ++ number ∷ []) ≡ suc (length numbers) = omega (arith, length-append numbers (number ∷ [])) in
    let new_before : get_or before' (length numbers) None ≡ get nat_cmp last number =
    rw (more, ← index.0) (at_end before found None) ∙ was in (
      rw more (omega (arith, index.0, length-append numbers (number ∷ []), length-append before (found ∷ []))),
      λ wanted.
          update.0 wanted ∙ (rw (is_equal number wanted, index.1 wanted, behind, index.0) refl
          ∙ (sym (with_one_more numbers number wanted) ∙ ap (last_where (has_number (numbers ++ number ∷ []) wanted)) (sym size))),
      λ at within.
          ⊎_elim (λ lower.
          let old : get_or before' at None ≡ get_or before at None =
          rw more (get_or_append_left before (found ∷ []) None at (omega (arith, index.0, lower))) in
          let its = get_or_append_left numbers (number ∷ []) 0 at lower in
          old ∙ (index.2 at lower ∙ (sym (same_below numbers number (get_or numbers at 0) at (omega (arith, lower)))
          ∙ ap (λ (n : ℕ). last_where (has_number (numbers ++ number ∷ []) n) at) (sym its))))
          (λ higher.
          let here : at ≡ length numbers = omega (arith, higher, within, size) in
          let its = at_end numbers number 0 in
          rw here (new_before ∙ (index.1 number ∙ (sym (same_below numbers number number (length numbers) (omega arith))
          ∙ ap (λ (n : ℕ). last_where (has_number (numbers ++ number ∷ []) n) (length numbers)) (sym its)))))
          (cases_lt at (length numbers)),
    )
