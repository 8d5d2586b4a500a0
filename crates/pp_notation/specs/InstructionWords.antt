-- The words of an instruction by its numbers.
use Rattle.std.specs.Prelude.{ℕ, ◌+◌, ◌-◌, ◌*◌, ◌/◌, ◌%◌, nat_le, if◌then◌else◌, List, [], ◌∷◌, Option, Some, None}

-- A number that is at most the given one, which is all ones.
abbrev pub at_most : ℕ → ℕ → Option ℕ
at_most most number = if nat_le number most then Some number else None

-- The distance of a relative jump from `here` to a target: forward up to 37, or the complement of a distance back up to 37. Address
-- 0000 follows 7777. [M8, P3]
abbrev pub distance : ℕ → ℕ → Option ℕ
distance here target =
    let on = (target + 0o10000 - here) % 0o10000 in
    let back = (here + 0o10000 - target) % 0o10000 in
    if nat_le on 0o37 then Some on else (if nat_le back 0o37 then Some (0o77 - back) else None)

-- The distance to a target, if there is one.
abbrev pub then_distance : ℕ → Option ℕ → Option ℕ
then_distance here None = None
then_distance here (Some target) = distance here target

-- One word: the code and d.
abbrev pub one_word : ℕ → Option ℕ → Option (List ℕ)
one_word code None = None
one_word code (Some d) = Some ((code * 0o100 + d) ∷ [])

-- A number of eighteen bits: the upper six are d, and the others m.
abbrev pub constant_words : ℕ → Option ℕ → Option (List ℕ)
constant_words code None = None
constant_words code (Some number) = Some ((code * 0o100 + number / 0o10000) ∷ (number % 0o10000) ∷ [])
