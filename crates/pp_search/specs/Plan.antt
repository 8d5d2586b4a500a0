-- Which turns a search must judge, and by which alternatives: for inner contracts.
use Rattle.std.specs.Prelude.{◌≡◌, ◌≢◌, ◌==◌, ◌&&◌, ◌||◌, ◌⊎◌, ℕ, ◌+◌, ◌%◌, ◌<◌, Bool, not}
use Rattle.std.specs.Prelude.{false, true, List, All, Contains, IfSome, None, Option, Some, length, get_or}
use Rattle.pp_history.specs.Marks.{covers}
use Rattle.pp_history.specs.declared.marks.Marks.{Marks}
use Rattle.pp_machine.specs.Numbering.{place_at}
use Rattle.pp_machine.specs.declared.place.Place.{Place}
use Rattle.pp_machine.specs.declared.place.Place.TheVariants.{Cell, Phase, RegA, RegP, RegQ}
use Rattle.pp_rig.specs.Inner.Marks.{marks_of}
use Rattle.pp_search.specs.declared.condition.Alternative.{Alternative}
use Rattle.pp_search.specs.declared.condition.Condition.{Condition}
use Rattle.pp_search.specs.declared.condition.Test.{Test}
use Rattle.pp_search.specs.declared.condition.Test.TheVariants.{Changes, Inside, Outside, Performs, Waits, WritesTo}
use Rattle.pp_machine.specs.Ranges.{processor_count}
use Rattle.pp_search.specs.declared.plan.Candidates.{Candidates}
use Rattle.pp_search.specs.declared.plan.Looked.{Looked}
use Rattle.pp_search.specs.declared.plan.Plan.{Plan}

-- Of a test a property of each place on whose number it depends, of each place of which it matters whether it was written, and of
-- the processor whose turn it must have been.
abbrev pub OfPlaces : (Place → Type 0) → (Place → Type 0) → (ℕ → Type 0) → Test → Type 0
OfPlaces Number Written Turn (Inside place first last) = Number place
OfPlaces Number Written Turn (Outside place first last) = Number place
OfPlaces Number Written Turn (Changes first count) = (k : ℕ) → k < count → Number (place_at (first + k))
OfPlaces Number Written Turn (WritesTo first count) = (k : ℕ) → k < count → Written (place_at (first + k))
OfPlaces Number Written Turn (Performs n address) = Number (RegP n) × Number (Phase n)
OfPlaces Number Written Turn (Waits n) = Turn n

-- The place is in the list, unless each turn is to be judged.
abbrev pub IsListed : Looked → Place → Type 0
IsListed looked place = (looked.is_each ≡ true) ⊎ Contains looked.places.items place

abbrev pub IsTestListed : Looked → Test → Type 0
IsTestListed looked = OfPlaces (IsListed looked) (λ place. looked.is_each ≡ true) (λ n. looked.is_each ≡ true)

-- What is listed stays listed.
abbrev pub Grows : Looked → Looked → Type 0
Grows old new = ((p : Place) → IsListed old p → IsListed new p) × (old.is_each ≡ true → new.is_each ≡ true)

-- The marks cover the places of a test.
abbrev pub IsTestCovered : Marks → Test → Type 0
IsTestCovered marks = OfPlaces (λ place. covers marks_of marks place ≡ true) (λ place. ⊥) (λ n. ⊥)

abbrev pub IsCovered : Marks → Condition → Type 0
IsCovered marks condition = All (λ alternative. All (IsTestCovered marks) alternative.tests.items) condition.alternatives.items

-- A place of this processor alone: a register, the phase or a cell. No turn of another processor writes it.
abbrev pub IsOwnPlace : ℕ → Place → Type 0
IsOwnPlace n (Cell m a) = m ≡ n
IsOwnPlace n (RegA m) = m ≡ n
IsOwnPlace n (RegP m) = m ≡ n
IsOwnPlace n (RegQ m) = m ≡ n
IsOwnPlace n (Phase m) = m ≡ n
IsOwnPlace n _ = ⊥

-- The test depends on this processor alone.
abbrev pub IsOwn : ℕ → Test → Type 0
IsOwn n = OfPlaces (IsOwnPlace n) (IsOwnPlace n) (λ m. m ≡ n)

-- All tests of the alternative depend on one processor, which is another one.
abbrev pub IsOfAnother : ℕ → Alternative → Type 0
IsOfAnother n alternative = (m : ℕ) × (m ≢ n) × All (IsOwn m) alternative.tests.items

-- The address has a flag.
abbrev pub has_flag : Candidates → ℕ → Bool
has_flag candidates address = get_or candidates.flags (address % 256) false

-- An address has a flag, or if there is none, any may do.
abbrev pub IsAwaited : Candidates → Option ℕ → Type 0
IsAwaited candidates None = candidates.is_anywhere ≡ true
IsAwaited candidates (Some address) = has_flag candidates address ≡ true

-- One of them can come to hold at this address.
abbrev pub can_hold_at : Candidates → ℕ → Bool
can_hold_at candidates address =
    not (length candidates.alternatives.items == 0) && (candidates.is_anywhere || has_flag candidates address)

-- What is awaited stays so.
abbrev pub KeepsFlags : Candidates → Candidates → Type 0
KeepsFlags old new = (address : Option ℕ) → IsAwaited old address → IsAwaited new address

-- The number of an alternative is among the candidates of this processor. It has a test that the processor performs at an address,
-- and this has a flag; or any address may do.
abbrev pub IsCandidate : ℕ → Candidates → ℕ → Alternative → Type 0
IsCandidate n candidates i alternative = Contains candidates.alternatives.items i × (address : Option ℕ)
    × IfSome address (λ a. Contains alternative.tests.items (Performs n a)) × IsAwaited candidates address

-- The numbers of alternatives, among them each that a turn of this processor can bring to hold.
pub record AreCandidates (n : ℕ) (alternatives : List Alternative) (candidates : Candidates) : Type 0 where
  pub within : All (λ i. i < length alternatives) candidates.alternatives.items
  pub others : (i : ℕ) (d : Alternative) → i < length alternatives →
      IsCandidate n candidates i (get_or alternatives i d) ⊎ IsOfAnother n (get_or alternatives i d)

-- Unless each turn is to be judged, the marks cover all places of the condition. Each processor has its candidates.
pub record IsPlan (plan : Plan) (condition : Condition) : Type 0 where
  pub covered : plan.is_each ≡ false → IsCovered plan.marks condition
  pub processors : length plan.candidates.items ≡ processor_count
  pub candidates : (n : ℕ) (d : Candidates) → n < processor_count →
      AreCandidates n condition.alternatives.items (get_or plan.candidates.items n d)
