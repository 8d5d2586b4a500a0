-- A turn of another processor: no alternative about one processor alone comes to hold in it.
use Rattle.std.proofs.Common.{◌≡◌, ◌∙◌, ◌≢◌, ◌∷◌, ◌+◌, ◌-◌, ◌/◌, ◌%◌, ◌<◌, ◌≤◌, ◌==◌, ◌||◌, [], ℕ, Bool, None, Some}
use Rattle.std.proofs.Common.{ap, arith, false, get_or, inl, inr, length, refl, true}
use Rattle.std.proofs.lemmas.List.Folds.{list_all_at, list_any_none}
use Rattle.std.specs.Prelude.{slice_index_or}
use Rattle.std.proofs.lemmas.Bool.Decides.{nat_tests}
use Rattle.pp_machine.specs.Machine.{Machine, number, same_place}
use Rattle.pp_machine.specs.Numbering.{place_at}
use Rattle.pp_machine.specs.Prelude.{Writes, lookup, renamed}
use Rattle.pp_machine.specs.declared.place.Place.{Place}
use Rattle.pp_machine.specs.declared.place.Place.TheVariants.{Cell, Phase, RegA, RegP, RegQ, Slot}
use Rattle.pp_rig.proofs.TurnNames.{by_kind, lookup_by_kind, lookup_processor, lookup_turn}
use Rattle.pp_rig.specs.Inner.ActionRecords.{FitsRecord, before, record_pairs}
use Rattle.pp_rig.specs.Inner.Short.{whole, whole_turn}
use Rattle.pp_rig.specs.Inner.TurnRecords.{turn_pairs}
use Rattle.pp_rig.specs.declared.rig.RigRecord.{RigRecord}
use Rattle.pp_rig.specs.declared.rig.ShortTurn.{ShortTurn}
use Rattle.pp_rig.specs.declared.rig.TurnRecord.{TurnRecord}
use Rattle.pp_rig.specs.declared.rig.TurnRest.{TurnRest}
use Rattle.pp_search.proofs.Unmarked.{does_not_come, same_number}
use Rattle.pp_search.specs.Condition.{comes, comes_to_hold, holds}
use Rattle.pp_search.specs.Plan.{AreCandidates, IsCandidate, IsOfAnother, IsOwnPlace, can_hold_at, has_flag}
use Rattle.pp_search.specs.declared.condition.Alternative.{Alternative}
use Rattle.pp_search.specs.declared.condition.Condition.{Condition}
use Rattle.pp_search.specs.declared.condition.Test.TheVariants.{Performs}
use Rattle.pp_search.specs.declared.plan.Candidates.{Candidates}
use Rattle.pp_step.specs.Step.{pp_pairs}
use Rattle.pp_step.specs.View.{PpPlace, pp_place}

-- ---- a step of a processor names no place of another one, and not the slot

other_place : (slot m : ℕ) (x : PpPlace) (p : Place) → (m ≢ slot) → IsOwnPlace m p → same_place (pp_place slot x) p ≡ false
other_place slot m x (Cell n a) other own = grind (arith, nat_tests, other, own)
other_place slot m x (RegA n) other own = grind (arith, nat_tests, other, own)
other_place slot m x (RegP n) other own = grind (arith, nat_tests, other, own)
other_place slot m x (RegQ n) other own = grind (arith, nat_tests, other, own)
other_place slot m x (Phase n) other own = grind (arith, nat_tests, other, own)
other_place slot m x _ other own = absurd own

not_in_step : (slot : ℕ) (p : Place) → ((x : PpPlace) → same_place (pp_place slot x) p ≡ false) → (ws : Writes PpPlace) →
    lookup (renamed (pp_place slot) ws) p ≡ None
not_in_step slot p other [] = refl
not_in_step slot p other (w ∷ ws) = rw (other w.0) (not_in_step slot p other ws)

not_in_rest : (r : TurnRest) (m : ℕ) (p : Place) → IsOwnPlace m p → by_kind r p ≡ None
not_in_rest r m (Cell n a) own = refl
not_in_rest r m (RegA n) own = refl
not_in_rest r m (RegP n) own = refl
not_in_rest r m (RegQ n) own = refl
not_in_rest r m (Phase n) own = refl
not_in_rest r m _ own = absurd own

not_in_turn : (r : TurnRecord) (m : ℕ) (p : Place) → (m ≢ r.rest.slot) → IsOwnPlace m p → lookup (turn_pairs r) p ≡ None
not_in_turn r m p other own =
    lookup_processor r p (not_in_rest r.rest m p own) ∙ not_in_step r.rest.slot p (λ x. other_place r.rest.slot m x p other own)
    (pp_pairs r.pp)

no_slot : (n : ℕ) (x : PpPlace) → same_place (pp_place n x) Slot ≡ false
no_slot n x = grind arith

slot_of_turn : (r : TurnRecord) → lookup (turn_pairs r) Slot ≡ Some r.rest.slot
slot_of_turn r = grind (
  arith,
  lookup_turn r Slot,
  not_in_step r.rest.slot Slot (no_slot r.rest.slot) (pp_pairs r.pp),
  lookup_by_kind r.rest Slot,
)

-- ---- so it brings no alternative of another one to hold

pub other_does_not_come : (turn : ShortTurn) (back : RigRecord) (now : Machine) (pp : ℕ) (alternative : Alternative) →
    back ≡ whole turn → turn.rest.slot ≡ pp → FitsRecord back now → IsOfAnother pp alternative →
    comes alternative (before back now) (record_pairs back) now ≡ false
other_does_not_come turn back now pp alternative is slot fits (m, other, own) =
    let r = whole_turn turn in
    let pairs : record_pairs back ≡ turn_pairs r = ap record_pairs is in
    let another : (m ≢ r.rest.slot) = rw slot other in
    let none = λ (p : Place) (is_own : IsOwnPlace m p). ap (λ ws. lookup ws p) pairs ∙ not_in_turn r m p another is_own in
    does_not_come (IsOwnPlace m) (IsOwnPlace m) (λ n. n ≡ m) (before back now) now (record_pairs back)
    (λ p is_own. same_number back (before back now) now p fits refl (none p is_own))
    (λ p is_own. let unwritten = none p is_own in grind (arith, unwritten))
    (λ n same. let turned = ap (λ ws. lookup ws Slot) pairs ∙ slot_of_turn r in grind (arith, nat_tests, turned, same, another))
    alternative own

-- ---- its alternatives come to hold only where it is awaited

different : (candidates : Candidates) (p a : ℕ) → has_flag candidates p ≡ false → has_flag candidates a ≡ true → (p == a) ≡ false
different candidates p a off on = grind (arith, nat_tests, off, on)

awaited_does_not_come : (alternative : Alternative) (candidates : Candidates) (n i : ℕ) (old new : Machine) (olds : Writes Place) →
    candidates.is_anywhere ≡ false → has_flag candidates (number new (RegP n)) ≡ false → IsCandidate n candidates i alternative →
    comes alternative old olds new ≡ false
awaited_does_not_come alternative candidates n i old new olds off flag (has, None, tests, awaited) = absurd (cc)
awaited_does_not_come alternative candidates n i old new olds off flag (has, Some a, (k, less, is), awaited) =
    let here = different candidates (number new (RegP n)) a flag awaited in
    let one : holds (slice_index_or alternative.tests.items k (Performs n a)) old olds new ≡ false = rw is (rw here refl) in
    let none = list_all_at (λ test. holds test old olds new) alternative.tests.items k (Performs n a) less one in
    rw none refl

neither : (a b : Bool) → (a || b) ≡ false → (a ≡ false) × (b ≡ false)
neither false b is = (refl, is)
neither true b is = absurd (cc)

candidate_does_not_come : (alternative : Alternative) (candidates : Candidates) (n i : ℕ) (old new : Machine) (olds : Writes Place)
    →
    can_hold_at candidates (number new (RegP n)) ≡ false → IsCandidate n candidates i alternative →
    comes alternative old olds new ≡ false
candidate_does_not_come alternative candidates n i old new olds off is =
    let (k, less, found) = is.0 in
    let some : (length candidates.alternatives.items == 0) ≡ false = grind (arith, nat_tests, less) in
    let none = neither candidates.is_anywhere (has_flag candidates (number new (RegP n))) (rw some at off) in
    awaited_does_not_come alternative candidates n i old new olds none.0 none.1 is

pub none_where_it_is : (turn : ShortTurn) (back : RigRecord) (now : Machine) (pp : ℕ) (condition : Condition)
    (candidates : Candidates) →
    back ≡ whole turn → turn.rest.slot ≡ pp → FitsRecord back now → AreCandidates pp condition.alternatives.items candidates →
    can_hold_at candidates (number now (RegP pp)) ≡ false →
    comes_to_hold condition (before back now) (record_pairs back) now ≡ false
none_where_it_is turn back now pp condition candidates is slot fits are off =
    let old = before back now in
    let olds = record_pairs back in
    let all = condition.alternatives.items in
    list_any_none (λ (alternative : Alternative). comes alternative old olds now) all (λ i d less. elim (are.others i d less) [
      | inl of ↦ candidate_does_not_come (get_or all i d) candidates pp i old now olds off of
      | inr of ↦ other_does_not_come turn back now pp (get_or all i d) is slot fits of
    ])

-- ---- cells of one memory

pub memory_place : (first count k : ℕ) → first / 4096 < 10 → count ≤ 4096 - first % 4096 → k < count →
    IsOwnPlace (first / 4096) (place_at (first + k))
unfolding place_at
memory_place first count k within fits less =
    let cell : first + k < 40960 = omega (arith, within, fits, less) in
    let same : (first + k) / 4096 ≡ first / 4096 = omega (arith, within, fits, less) in
    grind (arith, nat_tests, cell, same)
