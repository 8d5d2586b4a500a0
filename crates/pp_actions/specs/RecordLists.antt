-- Definitions about records: watch entries put back, and a list without its places. What an action writes does not need
-- them. The contracts of inner functions and the proofs need them for the places of a record and for the machines that
-- it fits.
use Rattle.std.specs.Prelude.{ℕ, ◌+◌, List, [], ◌∷◌, slice_index, set}
use Rattle.pp_machine.specs.Writes.{Writes}
use Rattle.pp_machine.specs.declared.place.Place.{Place}

-- the entries with these codes from i on
abbrev pub with_entries : List ℕ → ℕ → List ℕ → List ℕ
with_entries entries i [] = entries
with_entries entries i (code ∷ codes) = set (with_entries entries (i + 1) codes) i code

-- the codes in the entries from i on, as many as there are codes in the list
abbrev pub entries_at : List ℕ → ℕ → List ℕ → List ℕ
entries_at entries i [] = []
entries_at entries i (code ∷ codes) = slice_index entries i ∷ entries_at entries (i + 1) codes

-- the numbers of a list
abbrev pub numbers : Writes Place → List ℕ
numbers [] = []
numbers (pair ∷ w) = pair.1 ∷ numbers w

-- the places of a list with other numbers
abbrev pub with_new_numbers : Writes Place → List ℕ → Writes Place
with_new_numbers [] ns = []
with_new_numbers (pair ∷ w) [] = []
with_new_numbers (pair ∷ w) (n ∷ ns) = (pair.0, n) ∷ with_new_numbers w ns
