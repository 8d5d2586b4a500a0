use Rattle.std.proofs.Common.{◌≡◌, ◌≤◌, [], All, drop, length, take}
use Rattle.pp_search.specs.Condition.{HasPlaces}
use Rattle.pp_search.specs.Forms.{IsForm, IsSmall, alternatives_of}
use Rattle.pp_search.specs.declared.condition.Alternative.{Alternative}
use Rattle.pp_search.specs.declared.condition.TheConstants.{MOST_ALTERNATIVES, MOST_TESTS}
use Rattle.pp_search.proofs.forms.condition_into.Given as goal

abbrev pub invariant-loop-form : goal.invariant-loop-form
invariant-loop-form l = record {
  is : alternatives_of [] [] l.forms ≡ alternatives_of l.alternatives.items l.tests.items (drop l.form-index l.forms);
  has : All (λ (alternative : Alternative). All (HasPlaces l.machine.setup.central_words) alternative.tests.items)
      l.alternatives.items;
  are : All (IsForm l.machine.setup.central_words) (take l.form-index l.forms);
  few : length l.alternatives.items ≤ MOST_ALTERNATIVES;
  small : All IsSmall l.alternatives.items;
  begun_small : length l.tests.items ≤ MOST_TESTS;
  begun : All (HasPlaces l.machine.setup.central_words) l.tests.items;
}
