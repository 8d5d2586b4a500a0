use Rattle.std.proofs.Common.{◌≤◌, All, arith, drop, drop_of_length-le, inl, length, refl, rules, subst}
use Rattle.pp_search.proofs.Chosen.{take_whole}
use Rattle.pp_search.proofs.ReadForms.{condition_is, full_length, no_room_for_alternatives, no_room_for_tests}
use Rattle.pp_search.specs.Forms.{HasRoom, IsForm, IsSmall}
use Rattle.pp_search.specs.declared.condition.TheConstants.{MOST_ALTERNATIVES}
use Rattle.std.proofs.lemmas.List.Elements.{All-more, All-push}
use Rattle.std.proofs.lemmas.Bool.Decides.{nat_tests}
use Rattle.std.proofs.lemmas.Grind.{common_steps}
use Rattle.pp_search.proofs.forms.condition_into.Goals as goal
use Rattle.pp_search.proofs.forms.condition_into.Goals.{then-form-eq-OR+else-is_full, else-form-eq-OR+else-is_full-2+in-Some}

pub loop-form-preserved : goal.loop-form-preserved
loop-form-preserved c =
    let Is = IsForm c.args.machine.now.setup.central_words in
    let begun = c.loop-form.invariant in
    let more = All-more Is c.args.forms.now c.loop-form.form-index _ c.loop-form-test.true begun.are in
    let small_more = All-push IsSmall c.loop-form.alternatives.items _ begun.small begun.begun_small in
    elim c.if-form-eq-OR.branch [
      | then-form-eq-OR+else-is_full w ↦ record {
        is = grind (arith, common_steps);
        has = grind (arith, common_steps);
        are = more (inl w.if-form-eq-OR.true);
        few = search rules;
        small = rw (w.alternatives-is, w.push.ensures.items) small_more;
        begun_small = search rules;
        begun = grind (arith, common_steps);
      }
      | else-form-eq-OR+else-is_full-2+in-Some w ↦ record {
        is = grind (arith, common_steps);
        has = grind (arith, common_steps);
        are = more w.in-Some.ensures.is_form;
        few = search rules;
        small = search rules;
        begun_small = search rules;
        begun = grind (arith, common_steps);
      }
    ]

pub returns-then-is_full-clause-some : goal.returns-then-is_full-clause-some
returns-then-is_full-clause-some c = λ are. absurd (full_length _ _ c.is_full.result c.is_full.ensures.value c.if-is_full.true
    (no_room_for_alternatives c.args.forms.now c.loop-form.alternatives.items c.loop-form.tests.items
    (drop c.loop-form.form-index c.args.forms.now) are.0 c.loop-form.invariant.is))

pub returns-then-is_full-2-clause-some : goal.returns-then-is_full-2-clause-some
returns-then-is_full-2-clause-some c = λ are. absurd
    (full_length _ _ c.is_full-else-form-eq-OR.result c.is_full-else-form-eq-OR.ensures.value
    c.if-is_full-2.true (no_room_for_tests c.args.forms.now c.loop-form.alternatives.items c.loop-form.tests.items
    c.loop-form.form-index _ are.0
    c.loop-form.invariant.is c.loop-form-test.true c.if-form-eq-OR.false))

pub returns-then-is_full-3-clause-some : goal.returns-then-is_full-3-clause-some
returns-then-is_full-3-clause-some c = λ are. absurd
    (full_length _ _ c.is_full-2.result c.is_full-2.ensures.value c.if-is_full-3.true
    (no_room_for_alternatives c.args.forms.now c.loop-form.alternatives.items c.loop-form.tests.items
    (drop c.loop-form.form-index c.args.forms.now) are.0 c.loop-form.invariant.is))

pub returns-clause-is : goal.returns-clause-is
returns-clause-is c = λ _.
    condition_is c.args.forms.now (record { alternatives = c.push-2.new.self }) c.loop-form.alternatives.items
    c.loop-form.tests.items _
    (drop_of_length-le c.args.forms.now c.loop-form-test.false) c.loop-form.invariant.is c.push-2.ensures.items

pub returns-clause-are_forms : goal.returns-clause-are_forms
returns-clause-are_forms c = λ _.
    let is = returns-clause-is c refl in
    let begun = c.loop-form.invariant in
    let all = c.push-2.new.self.items in
    let few : length all ≤ MOST_ALTERNATIVES = grind
    (arith, nat_tests, c.push-2.ensures.len, c.is_full-2.ensures, c.if-is_full-3.false) in
    let small : All IsSmall all =
    rw c.push-2.ensures.items (All-push IsSmall c.loop-form.alternatives.items _ begun.small begun.begun_small) in
    (subst HasRoom is (few, small), rw (take_whole c.args.forms.now c.loop-form.form-index c.loop-form-test.false) at begun.are)
