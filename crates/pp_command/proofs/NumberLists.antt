-- Numbers that are read one after another.
use Rattle.std.proofs.Common.{◌≡◌, ℕ, List, [], ◌∷◌, ◌++◌, refl, ap, arith, Result, Ok, Err, append-nil}
use Rattle.std.proofs.lemmas.Grind.{common_steps, elements}
use Rattle.pp_command.specs.{declared.fault.LineFault.LineFault, Numbers.number_read, Numbers.numbers}
use Rattle.pp_lines.specs.Results.{◌>>=◌}

-- the numbers after those already read
abbrev pub with_front : List ℕ → Result (List ℕ) LineFault → Result (List ℕ) LineFault
with_front front read = read >>= λ values. Ok (front ++ values)

front-next : (front : List ℕ) (value : ℕ) (read : Result (List ℕ) LineFault) →
    with_front front (read >>= λ values. Ok (value ∷ values)) ≡ with_front (front ++ value ∷ []) read
front-next front value read = grind (arith, common_steps)

-- a word is read
pub numbers-next : (most : ℕ) (front : List ℕ) (word : List ℕ) (others : List (List ℕ)) (value : ℕ) →
    number_read most word ≡ Ok value →
    with_front front (numbers most (word ∷ others)) ≡ with_front (front ++ value ∷ []) (numbers most others)
numbers-next most front word others value e = rw e (front-next front value (numbers most others))

-- a word is not a number in range
pub numbers-fails : (most : ℕ) (front : List ℕ) (word : List ℕ) (others : List (List ℕ)) (fault : LineFault) →
    number_read most word ≡ Err fault → with_front front (numbers most (word ∷ others)) ≡ Err fault
numbers-fails most front word others fault e = rw e refl

-- no word is left
pub numbers-none : (most : ℕ) (front : List ℕ) → with_front front (numbers most []) ≡ Ok front
numbers-none most front = ap Ok (append-nil front)

-- what reading numbers one after another needs
pub ruleset number_lists = (common_steps, elements, numbers-next, numbers-fails, numbers-none)
