-- A turn whose undo record has no marked place: no condition whose places are marked comes to hold in it.
use Rattle.std.proofs.Common.{◌≡◌, ◌∙◌, ℕ, suc, ◌+◌, ◌-◌, ◌<◌, ◌≤◌, ◌==◌, ◌&&◌, ◌∷◌, [], Bool, false, true, not, List, All, None}
use Rattle.std.proofs.Common.{ap, ap₂, arith, refl, sym, unwrap_or}
use Rattle.std.proofs.lemmas.List.Elements.{recursion_from_All}
use Rattle.std.specs.List.{AllByRecursion, list_any}
use Rattle.pp_actions.specs.declared.action.Action.TheVariants.{Turn}
use Rattle.pp_history.specs.Marks.{covers}
use Rattle.pp_history.specs.Repeating.{AreUnmarked}
use Rattle.pp_history.specs.declared.marks.Marks.{Marks}
use Rattle.pp_machine.specs.Machine.{Machine, number}
use Rattle.pp_machine.specs.Prelude.{Writes, lookup}
use Rattle.pp_machine.specs.declared.place.Place.{Place}
use Rattle.pp_machine.specs.declared.place.Place.TheVariants.{Phase, RegP, Slot}
use Rattle.pp_rig.proofs.Runs.{record_was}
use Rattle.pp_rig.specs.Inner.ActionRecords.{FitsRecord, before, record_pairs}
use Rattle.pp_rig.specs.Inner.Marks.{marks_of}
use Rattle.pp_rig.specs.Rules.{rules}
use Rattle.pp_rig.specs.Stopping.{turned}
use Rattle.pp_rig.specs.declared.rig.RigRecord.{RigRecord}
use Rattle.pp_search.proofs.AnyPlace.{unchanged}
use Rattle.pp_search.proofs.Written.{none_of_any}
use Rattle.pp_search.specs.Condition.{all_hold, all_met, comes, comes_to_hold, holds, is_changed}
use Rattle.pp_search.specs.Condition.{is_inside, is_met, is_turn_of, is_written}
use Rattle.pp_search.specs.Plan.{IsCovered, IsPlan, OfPlaces}
use Rattle.pp_search.specs.Search.{comes_in_turn}
use Rattle.pp_search.specs.declared.condition.Alternative.{Alternative}
use Rattle.pp_search.specs.declared.condition.Condition.{Condition}
use Rattle.pp_search.specs.declared.condition.Test.{Test}
use Rattle.pp_search.specs.declared.condition.Test.TheVariants.{Changes, Inside, Outside, Performs, Waits, WritesTo}
use Rattle.pp_search.specs.declared.plan.Plan.{Plan}

-- a place that the record does not have has the same number
pub same_number : (back : RigRecord) (old new : Machine) (p : Place) → FitsRecord back new → before back new ≡ old →
    lookup (record_pairs back) p ≡ None → number old p ≡ number new p
same_number back old new p fits led none =
    sym (ap (λ s. number s p) led) ∙ record_was back new p fits ∙ ap (λ o. unwrap_or o (number new p)) none

-- An action that leaves the numbers of some places, does not write some, and is a turn of other processors: no alternative about
-- these alone comes to hold in it.
module _ (Number Written : Place → Type 0) (Turns : ℕ → Type 0) (old new : Machine) (old_values : Writes Place)
    (same : (p : Place) → Number p → number old p ≡ number new p)
    (unwritten : (p : Place) → Written p → is_written old_values p ≡ false)
    (no_turn : (n : ℕ) → Turns n → is_turn_of n (lookup old_values Slot) ≡ false) where
  abbrev Is : Test → Type 0
  Is = OfPlaces Number Written Turns

  test_same : (test : Test) → Is test → holds test old old_values new ≡ is_met test old
  test_same (Inside place first last) is = ap (λ n. is_inside first last n) (sym (same place is))
  test_same (Outside place first last) is = ap (λ n. not (is_inside first last n)) (sym (same place is))
  test_same (Changes first count) is =
      none_of_any (is_changed old new) first count (λ k less. unchanged old new _ (same _ (is k less)))
  test_same (Performs n address) (p, phase) =
      ap₂ (λ a b. a == address && b == 0) (sym (same (RegP n) p)) (sym (same (Phase n) phase))
  test_same (WritesTo first count) is = none_of_any (is_written old_values) first count (λ k less. unwritten _ (is k less))
  test_same (Waits n) is = let none = no_turn n is in grind (arith, none)

  tests_same : (tests : List Test) → AllByRecursion Is tests → all_hold tests old old_values new ≡ all_met tests old
  tests_same [] all = refl
  tests_same (test ∷ tests) (one, others) = ap₂ (λ a b. a && b) (test_same test one) (tests_same tests others)

  not_both : (a b : Bool) → a ≡ b → (a && not b) ≡ false
  not_both true b is = rw (← is) refl
  not_both false b is = refl

  pub does_not_come : (alternative : Alternative) → All Is alternative.tests.items → comes alternative old old_values new ≡ false
  does_not_come alternative all =
      let tests = alternative.tests.items in
      not_both (all_hold tests old old_values new) (all_met tests old) (tests_same tests (recursion_from_All Is tests all))

  none_comes : (alternatives : List Alternative) →
      AllByRecursion (λ (alternative : Alternative). All Is alternative.tests.items) alternatives →
      list_any (λ alternative. comes alternative old old_values new) alternatives ≡ false
  none_comes [] all = refl
  none_comes (alternative ∷ others) (one, rest) = let none = does_not_come alternative one in rw none (none_comes others rest)

  pub condition_does_not_come : (condition : Condition) →
      All (λ (alternative : Alternative). All Is alternative.tests.items) condition.alternatives.items →
      comes_to_hold condition old old_values new ≡ false
  condition_does_not_come condition all =
      let AreOf = λ (alternative : Alternative). All Is alternative.tests.items in
      none_comes condition.alternatives.items (recursion_from_All AreOf condition.alternatives.items all)

-- an undo record without a marked place
unmarked_none : (condition : Condition) (marks : Marks) (back : RigRecord) (old new : Machine) (old_values : Writes Place) →
    FitsRecord back new → before back new ≡ old → IsCovered marks condition →
    ((p : Place) → covers marks_of marks p ≡ true → lookup (record_pairs back) p ≡ None) →
    comes_to_hold condition old old_values new ≡ false
unmarked_none condition marks back old new old_values fits led covered none =
    let Covered = λ (p : Place). covers marks_of marks p ≡ true in
    condition_does_not_come Covered (λ place. ⊥) (λ n. ⊥) old new old_values
    (λ p is. same_number back old new p fits led (none p is)) (λ p is. absurd is) (λ n is. absurd is) condition covered

-- turns that a plan skips
pub skipped_turns : (condition : Condition) (plan : Plan) (turns : ℕ) (s : Machine) (is_each : Bool) → is_each ≡ plan.is_each →
    IsPlan plan condition → (is_each ≡ true → turns ≡ 1) → AreUnmarked rules marks_of plan.marks Turn (turns - 1) s →
    (k : ℕ) → 1 ≤ k → k < turns → comes_in_turn condition s k ≡ false
skipped_turns condition plan turns s true each planned one unmarked k some less =
    let only : turns ≡ 1 = one refl in absurd (omega (arith, only, some, less))
skipped_turns condition plan turns s false each planned one unmarked k some less =
    let here : k - 1 + 1 ≡ suc (k - 1) = omega arith in
    let (back, fits, led, none) = rw here at (unmarked (k - 1) (omega (arith, some, less))) in
    unmarked_none condition plan.marks back (turned (k - 1) s) (turned (suc (k - 1)) s) _ fits led (planned.covered (sym each)) none

-- an action that a plan skips
pub skipped_action : (condition : Condition) (plan : Plan) (back : RigRecord) (new : Machine) (old_values : Writes Place) →
    FitsRecord back new → IsPlan plan condition → plan.is_each ≡ false →
    ((p : Place) → covers marks_of plan.marks p ≡ true → lookup (record_pairs back) p ≡ None) →
    comes_to_hold condition (before back new) old_values new ≡ false
skipped_action condition plan back new old_values fits planned each none =
    unmarked_none condition plan.marks back (before back new) new old_values fits refl (planned.covered each) none
