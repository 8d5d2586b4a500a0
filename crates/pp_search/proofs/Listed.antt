-- The places in a list.
use Rattle.std.proofs.Common.{◌≡◌, ◌++◌, ◌∷◌, [], ◌<◌, ℕ, ◌+◌, List, All, Contains}
use Rattle.std.proofs.Common.{false, get_or, length, inl, inr, arith, take, true}
use Rattle.std.proofs.lemmas.List.Elements.{All-contains, All-contains_itself, All-more, Contains-append_left}
use Rattle.std.proofs.lemmas.List.Elements.{Contains-append_right}
use Rattle.pp_history.proofs.Names.{cases_lt}
use Rattle.pp_history.specs.Marks.{covers}
use Rattle.pp_history.specs.declared.marks.Marks.{Marks}
use Rattle.pp_machine.specs.Numbering.{place_at}
use Rattle.pp_machine.specs.declared.place.Place.{Place}
use Rattle.pp_rig.specs.Inner.Marks.{marks_of}
use Rattle.pp_search.specs.Plan.{Grows, IsCovered, IsListed, IsTestCovered, IsTestListed}
use Rattle.pp_search.specs.declared.condition.Alternative.{Alternative}
use Rattle.pp_search.specs.declared.condition.Condition.{Condition}
use Rattle.pp_search.specs.declared.condition.Test.{Test}
use Rattle.pp_search.specs.declared.condition.Test.TheVariants.{Changes, Inside, Outside, Performs, Waits, WritesTo}
use Rattle.pp_search.specs.declared.plan.Looked.{Looked}

pub test_keeps : (old new : Looked) → Grows old new → (test : Test) → IsTestListed old test → IsTestListed new test
test_keeps old new grows (Inside place first last) is = grows.0 place is
test_keeps old new grows (Outside place first last) is = grows.0 place is
test_keeps old new grows (Changes first count) is = λ k less. grows.0 _ (is k less)
test_keeps old new grows (Performs n address) (p, phase) = (grows.0 _ p, grows.0 _ phase)
test_keeps old new grows (WritesTo first count) is = λ k less. grows.1 (is k less)
test_keeps old new grows (Waits n) is = grows.1 is

pub listed_here : (places : List Place) (place : Place) → Contains (places ++ (place ∷ [])) place
listed_here places place = Contains-append_right places (place ∷ []) place (All-contains_itself (place ∷ []) 0 place (omega arith))

pub listed_still : (places : List Place) (place p : Place) → Contains places p → Contains (places ++ (place ∷ [])) p
listed_still places place p is = Contains-append_left places (place ∷ []) p is

pub ruleset listed = (listed_here, listed_still)

-- the places of all tests are listed
abbrev pub AreListed : Looked → Alternative → Type 0
AreListed looked alternative = All (IsTestListed looked) alternative.tests.items

-- one more test
pub tests_more : (old new : Looked) → Grows old new → (tests : List Test) (i : ℕ) (d : Test) → i < length tests →
    All (IsTestListed old) (take i tests) → IsTestListed new (get_or tests i d) → All (IsTestListed new) (take (i + 1) tests)
tests_more old new grows tests i d less all last =
    All-more (IsTestListed new) tests i d less (λ k e within. test_keeps old new grows _ (all k e within)) last

-- one more alternative
pub all_more : (old new : Looked) → Grows old new → (alternatives : List Alternative) (i : ℕ) (d : Alternative) →
    i < length alternatives → All (AreListed old) (take i alternatives) → AreListed new (get_or alternatives i d) →
    All (AreListed new) (take (i + 1) alternatives)
all_more old new grows alternatives i d less all last =
    All-more (AreListed new) alternatives i d less
    (λ k e within j f inside. test_keeps old new grows _ (all k e within j f inside)) last

-- one more place
pub places_more : (looked : Looked) (first count : ℕ) (place : Place) →
    ((k : ℕ) → k < count → IsListed looked (place_at (first + k))) → place ≡ place_at (first + count) → IsListed looked place →
    (k : ℕ) → k < count + 1 → IsListed looked (place_at (first + k))
places_more looked first count place all is listed k less = elim (cases_lt k count) [
  | inl earlier ↦ all k earlier
  | inr past ↦
      let here : k ≡ count = omega (arith, less, past) in
      rw (here, ← is) listed
]

-- if not each turn is to be judged, marks of the places cover those of the condition
module _ (marks : Marks) (looked : Looked) (none : looked.is_each ≡ false)
    (all : All (λ (p : Place). covers marks_of marks p ≡ true) looked.places.items) where
  place_covered : (p : Place) → IsListed looked p → covers marks_of marks p ≡ true
  place_covered p (inl each) = let both : true ≡ false = rw each at none in absurd (cc)
  place_covered p (inr has) = All-contains (λ (p : Place). covers marks_of marks p ≡ true) looked.places.items p all has

  not_each : looked.is_each ≡ true → ⊥
  not_each each = let both : true ≡ false = rw each at none in absurd (cc)

  test_covered : (test : Test) → IsTestListed looked test → IsTestCovered marks test
  test_covered (Inside place first last) is = place_covered place is
  test_covered (Outside place first last) is = place_covered place is
  test_covered (Changes first count) is = λ k less. place_covered _ (is k less)
  test_covered (Performs n address) (p, phase) = (place_covered _ p, place_covered _ phase)
  test_covered (WritesTo first count) is = λ k less. not_each (is k less)
  test_covered (Waits n) is = not_each is

  pub listed_covered : (condition : Condition) → All (AreListed looked) condition.alternatives.items → IsCovered marks condition
  listed_covered condition listed = λ k d within j e inside. test_covered _ (listed k d within j e inside)
