-- Write lists of consecutive places.
use Rattle.std.specs.Prelude.{ℕ, ◌+◌, ◌%◌, List, [], ◌∷◌}
use Rattle.pp_machine.specs.Writes.{Writes}
use Rattle.pp_machine.specs.declared.place.Place.{Place}
use Rattle.pp_machine.specs.declared.place.Place.TheVariants.{Cell, RegA, RegP, RegQ, Phase}

-- Numbers at consecutive places, from place i on. [P29]
abbrev pub writes_from : (ℕ → Place) → ℕ → List ℕ → Writes Place
writes_from place i [] = []
writes_from place i (v ∷ vs) = (place i, v) ∷ writes_from place (i + 1) vs

-- Values in the cells of processor n from a on; cell 0000 follows 7777. [P3]
abbrev pub cell_writes : ℕ → ℕ → List ℕ → Writes Place
cell_writes n = writes_from (λ a. Cell n (a % 0o10000))

-- the registers and the phase of processor n
abbrev pub register_writes : ℕ → ℕ → ℕ → ℕ → ℕ → Writes Place
register_writes n a p q phase = (RegA n, a) ∷ (RegP n, p) ∷ (RegQ n, q) ∷ (Phase n, phase) ∷ []
