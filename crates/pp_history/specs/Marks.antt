-- Marks of places, a Bloom filter with two hashes. They show of most undo records that they have none of the places.
use Rattle.std.specs.Prelude.{ℕ, Bool, true, false, ◌≡◌, ◌%◌, ◌||◌, ◌&&◌, List, All, Option, Some, None, get_or}
use Rattle.pp_history.specs.declared.marks.Marks.{Marks}

-- the mark with this number, modulo 1024, is set
abbrev pub is_set : Marks → ℕ → Bool
is_set m i = get_or m.marks (i % 1024) false

-- both marks of a place are set
abbrev pub is_marked : Marks → Option (ℕ × ℕ) → Bool
is_marked m None = false
is_marked m (Some (i, j)) = is_set m i && is_set m j

-- the marks are set, or a place without marks was given, and then every record is searched
abbrev pub is_covered : Marks → Option (ℕ × ℕ) → Bool
is_covered m marks = m.has_places && (m.has_unmarked || is_marked m marks)

module _ {P : Type 0} (marks_of : P → Option (ℕ × ℕ)) where
  -- the marks cover the place
  abbrev pub covers : Marks → P → Bool
  covers m p = is_covered m (marks_of p)

  abbrev pub AreCovered : Marks → List P → Type 0
  AreCovered m places = All (λ p. covers m p ≡ true) places

  -- an undo record has none of the places that the marks cover
  abbrev pub IsUnmarked : {R : Type 0} → (R → P → Option ℕ) → Marks → R → Type 0
  IsUnmarked old_value m back = (p : P) → covers m p ≡ true → old_value back p ≡ None
