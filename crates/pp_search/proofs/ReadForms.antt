-- The condition of some forms.
use Rattle.std.proofs.Common.{◌≡◌, ◌∙◌, ◌++◌, ◌∷◌, ◌+◌, ◌<◌, ◌≤◌, ◌==◌, [], ℕ, zero, suc, All, Bool, List, ap, arith, drop, false}
use Rattle.std.proofs.Common.{get_or, length, length-append, refl, sym, true, if◌then◌else◌}
use Rattle.std.proofs.lemmas.Bool.Decides.{nat_tests}
use Rattle.std.proofs.lemmas.List.Elements.{All-contains, Contains-append_left, Contains-get_or, Contains-push}
use Rattle.pp_search.specs.Forms.{HasRoom, IsSmall, alternative, alternatives_of, condition_of, test_of}
use Rattle.pp_search.specs.declared.condition.Alternative.{Alternative}
use Rattle.pp_search.specs.declared.condition.Condition.{Condition}
use Rattle.pp_search.specs.declared.condition.TheConstants.{MOST_ALTERNATIVES, MOST_TESTS}
use Rattle.pp_search.specs.declared.condition.Test.{Test}
use Rattle.pp_search.specs.declared.forms.Form.{Form}
use Rattle.pp_search.specs.declared.forms.TheConstants.{OR}

unfoldable condition_with : List Alternative → Condition
condition_with items = record { alternatives = record { items = items } }

-- after the last form
pub condition_is : (forms : List Form) (condition : Condition) (done : List Alternative) (tests : List Test) (rest : List Form) →
    rest ≡ [] → alternatives_of [] [] forms ≡ alternatives_of done tests rest →
    condition.alternatives.items ≡ done ++ (alternative tests ∷ []) → condition ≡ condition_of forms
unfolding condition_of condition_with
condition_is forms condition done tests rest none is items = let all = rw none at is in ap condition_with (items ∙ sym all)

-- ---- forms that have no room

drop_next : (forms : List Form) (i : ℕ) (d : Form) → i < length forms → drop i forms ≡ get_or forms i d ∷ drop (i + 1) forms
drop_next [] i d less = absurd (omega (arith, less))
drop_next (form ∷ forms) zero d less = refl
drop_next (form ∷ forms) (suc i) d less = let next : suc i + 1 ≡ suc (i + 1) = omega arith in rw next
    (drop_next forms i d (omega (arith, less)))

-- an alternative behind some others
last_small : (done : List Alternative) (tests : List Test) → All IsSmall (done ++ (alternative tests ∷ [])) →
    length tests ≤ MOST_TESTS
last_small done tests all = All-contains IsSmall (done ++ (alternative tests ∷ [])) (alternative tests) all
    (Contains-push done (alternative tests))

earlier_small : (done : List Alternative) (last : Alternative) → All IsSmall (done ++ (last ∷ [])) → All IsSmall done
earlier_small done last all = λ k d less.
    All-contains IsSmall (done ++ (last ∷ [])) (get_or done k d) all
    (Contains-append_left done (last ∷ []) (get_or done k d) (Contains-get_or done k d less))

-- what comes after one form more: an alternative that is done, or another test
abbrev after_form : Bool → List Alternative → List Test → Form → List Form → List Alternative
after_form is_or done tests form forms =
    if is_or then alternatives_of (done ++ (alternative tests ∷ [])) [] forms else alternatives_of done
    (tests ++ (test_of form ∷ [])) forms

-- the alternatives that are done are among all of them
done_by : (is_or : Bool) (done : List Alternative) (tests : List Test) (form : Form) (forms : List Form) →
    (All IsSmall (alternatives_of (done ++ (alternative tests ∷ [])) [] forms) → All IsSmall (done ++ (alternative tests ∷ []))) →
    (All IsSmall (alternatives_of done (tests ++ (test_of form ∷ [])) forms) → All IsSmall done) →
    All IsSmall (after_form is_or done tests form forms) → All IsSmall done
done_by true done tests form forms one other all = earlier_small done (alternative tests) (one all)
done_by false done tests form forms one other all = other all

done_small : (done : List Alternative) (tests : List Test) (forms : List Form) → All IsSmall (alternatives_of done tests forms) →
    All IsSmall done
done_small done tests [] all = earlier_small done (alternative tests) all
done_small done tests (form ∷ forms) all = done_by (form.kind == OR) done tests form forms
    (done_small (done ++ (alternative tests ∷ [])) [] forms)
    (done_small done (tests ++ (test_of form ∷ [])) forms) all

-- and there is one more
more_by : (is_or : Bool) (done : List Alternative) (tests : List Test) (form : Form) (forms : List Form) →
    length (done ++ (alternative tests ∷ [])) + 1 ≤ length (alternatives_of (done ++ (alternative tests ∷ [])) [] forms) →
    length done + 1 ≤ length (alternatives_of done (tests ++ (test_of form ∷ [])) forms) →
    length done + 1 ≤ length (after_form is_or done tests form forms)
more_by true done tests form forms one other = omega (arith, length-append done (alternative tests ∷ []), one)
more_by false done tests form forms one other = other

more_than_done : (done : List Alternative) (tests : List Test) (forms : List Form) →
    length done + 1 ≤ length (alternatives_of done tests forms)
more_than_done done tests [] = omega (arith, length-append done (alternative tests ∷ []))
more_than_done done tests (form ∷ forms) = more_by (form.kind == OR) done tests form forms
    (more_than_done (done ++ (alternative tests ∷ [])) [] forms)
    (more_than_done done (tests ++ (test_of form ∷ [])) forms)

-- the tests of the alternative that is begun are among those of one of them
begun_by : (is_or : Bool) (done : List Alternative) (tests : List Test) (form : Form) (forms : List Form) →
    (All IsSmall (alternatives_of done (tests ++ (test_of form ∷ [])) forms) → length (tests ++ (test_of form ∷ [])) ≤ MOST_TESTS) →
    All IsSmall (after_form is_or done tests form forms) → length tests ≤ MOST_TESTS
begun_by true done tests form forms other all = last_small done tests (done_small (done ++ (alternative tests ∷ [])) [] forms all)
begun_by false done tests form forms other all = omega (arith, length-append tests (test_of form ∷ []), other all)

begun_small : (done : List Alternative) (tests : List Test) (forms : List Form) → All IsSmall (alternatives_of done tests forms) →
    length tests ≤ MOST_TESTS
begun_small done tests [] all = last_small done tests all
begun_small done tests (form ∷ forms) all = begun_by (form.kind == OR) done tests form forms
    (begun_small done (tests ++ (test_of form ∷ [])) forms) all

-- too many alternatives
pub no_room_for_alternatives : (forms : List Form) (done : List Alternative) (tests : List Test) (rest : List Form) →
    HasRoom (condition_of forms) → alternatives_of [] [] forms ≡ alternatives_of done tests rest → length done < MOST_ALTERNATIVES
unfolding condition_of
no_room_for_alternatives forms done tests rest room is =
    let few = rw is at room.0 in omega (arith, few, more_than_done done tests rest)

-- too many tests
pub no_room_for_tests : (forms : List Form) (done : List Alternative) (tests : List Test) (i : ℕ) (d : Form) →
    HasRoom (condition_of forms) → alternatives_of [] [] forms ≡ alternatives_of done tests (drop i forms) → i < length forms →
    ((get_or forms i d).kind ≡ OR → ⊥) → length tests < MOST_TESTS
unfolding condition_of
no_room_for_tests forms done tests i d room is less other =
    let form = get_or forms i d in
    let kind : (form.kind == OR) ≡ false = grind (arith, nat_tests, other) in
    let small = rw (is, drop_next forms i d less, kind) at room.1 in
    omega (
      arith,
      length-append tests (test_of form ∷ []),
      begun_small done (tests ++ (test_of form ∷ [])) (drop (i + 1) forms)
          small,
    )

-- a list without room is as long as it may be
pub full_length : (n most : ℕ) (is_full : Bool) → is_full ≡ (n == most) → is_full ≡ true → n < most → ⊥
full_length n most is_full is full less = absurd (grind (arith, nat_tests, is, full, less))
