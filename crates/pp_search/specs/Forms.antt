-- Conditions as numbers: tests one after another, with a form of its own between alternatives.
use Rattle.std.specs.Prelude.{◌≡◌, ◌⊎◌, ℕ, ◌+◌, ◌<◌, ◌≤◌, ◌==◌, List, [], ◌∷◌, ◌++◌, All, length, if◌then◌else◌}
use Rattle.pp_machine.specs.Numbering.{fixed_places, place_at}
use Rattle.pp_machine.specs.Ranges.{processor_count, twelve_bits}
use Rattle.pp_search.specs.declared.condition.Alternative.{Alternative}
use Rattle.pp_search.specs.declared.condition.Condition.{Condition}
use Rattle.pp_search.specs.declared.condition.TheConstants.{MOST_ALTERNATIVES, MOST_TESTS}
use Rattle.pp_search.specs.declared.condition.Test.{Test}
use Rattle.pp_search.specs.declared.condition.Test.TheVariants.{Changes, Inside, Outside, Performs, Waits, WritesTo}
use Rattle.pp_search.specs.declared.forms.Form.{Form}
use Rattle.pp_search.specs.declared.forms.TheConstants.{CHANGES, INSIDE, OR, OUTSIDE, PERFORMS, WAITS, WRITES}

-- The test of a form.
abbrev pub test_of : Form → Test
test_of form =
    if form.kind == INSIDE then Inside (place_at form.place) form.first form.last
    else (if form.kind == OUTSIDE then Outside (place_at form.place) form.first form.last
    else (if form.kind == CHANGES then Changes form.place form.first
    else (if form.kind == WRITES then WritesTo form.place form.first
    else (if form.kind == PERFORMS then Performs form.place form.first
    else Waits form.place))))

-- An alternative of these tests.
abbrev pub alternative : List Test → Alternative
alternative tests = record { tests = record { items = tests } }

-- The alternatives of some forms, behind those that are done and the tests of the one that is begun.
abbrev pub alternatives_of : List Alternative → List Test → List Form → List Alternative
alternatives_of done tests [] = done ++ (alternative tests ∷ [])
alternatives_of done tests (form ∷ forms) =
    if form.kind == OR then alternatives_of (done ++ (alternative tests ∷ [])) [] forms
    else alternatives_of done (tests ++ (test_of form ∷ [])) forms

unfoldable pub condition_of : List Form → Condition
condition_of forms = record { alternatives = record { items = alternatives_of [] [] forms } }

-- An alternative has as few tests as there is room for.
abbrev pub IsSmall : Alternative → Type 0
IsSmall alternative = length alternative.tests.items ≤ MOST_TESTS

-- The condition has as few alternatives, and each of them as few tests, as there is room for.
abbrev pub HasRoom : Condition → Type 0
HasRoom condition =
    (length condition.alternatives.items ≤ MOST_ALTERNATIVES)
    × All IsSmall condition.alternatives.items

-- The form is `OR`, or that of a test that a machine with so many words of central memory has the places of.
abbrev pub IsForm : ℕ → Form → Type 0
IsForm size form =
    (form.kind ≡ OR) ⊎ (((form.kind ≤ OUTSIDE) × (form.place < fixed_places + size))
    ⊎ ((((form.kind ≡ CHANGES) ⊎ (form.kind ≡ WRITES)) × (form.place + form.first ≤ fixed_places + size))
    ⊎ (((form.kind ≡ PERFORMS) × (form.place < processor_count) × (form.first ≤ twelve_bits))
    ⊎ ((form.kind ≡ WAITS) × (form.place < processor_count)))))

-- The forms are those of a condition that there is room for, and a machine with so many words of central memory has its places.
abbrev pub AreForms : ℕ → List Form → Type 0
AreForms size forms = HasRoom (condition_of forms) × All (IsForm size) forms
