-- 60-bit words and their five 12-bit parts, leftmost first.
use Rattle.std.specs.Prelude.{ℕ, ◌+◌, ◌*◌, ◌/◌, ◌%◌, ◌^◌, List, [], ◌∷◌, fold}

-- The five parts of a central word, of twelve bits each, leftmost first. [P8]
abbrev pub split60 : ℕ → List ℕ
split60 w = w / 2 ^ 48 % 2 ^ 12 ∷ w / 2 ^ 36 % 2 ^ 12 ∷ w / 2 ^ 24 % 2 ^ 12 ∷ w / 2 ^ 12 % 2 ^ 12 ∷ w % 2 ^ 12 ∷ []

-- The central word with these parts: each part shifts those before it left by twelve bits. [P8]
abbrev pub join60 : List ℕ → ℕ
join60 parts = fold (λ word part. word * 2 ^ 12 + part) 0 parts
