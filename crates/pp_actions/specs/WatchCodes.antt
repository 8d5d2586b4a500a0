-- Watched places as numbers.
use Rattle.std.specs.Prelude.{ℕ, ◌+◌, ◌-◌, ◌*◌, ◌==◌, if◌then◌else◌, List, [], ◌∷◌, length, map, replicate, ◌++◌}
use Rattle.pp_actions.specs.declared.watched.Watched.{Watched}
use Rattle.pp_actions.specs.declared.watched.Watched.TheVariants.{Cell, RegA, RegP, RegQ, Central, Register}

-- The code of a watched place, which is never 0: the kinds are 10000000 apart, and the processors 10000. [P28]
abbrev pub watch_code : Watched → ℕ
watch_code (Cell n a) = 0o10000000 + n * 0o10000 + a
watch_code (RegA n) = 0o20000000 + n
watch_code (RegP n) = 0o30000000 + n
watch_code (RegQ n) = 0o40000000 + n
watch_code (Central a) = 0o50000000 + a
watch_code (Register c) = 0o60000000 + c

-- The codes in order, then zeros: eight numbers in all. [P28]
abbrev pub watch_entries : List Watched → List ℕ
watch_entries ws = map watch_code ws ++ replicate (8 - length ws) 0

-- How many entries come before the first zero: the number of watched places. [P28]
abbrev pub first_zero : List ℕ → ℕ
first_zero [] = 0
first_zero (x ∷ xs) = if x == 0 then 0 else first_zero xs + 1
