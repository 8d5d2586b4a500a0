-- The numbers of a command line. All are octal.
use Rattle.std.specs.Prelude.{ℕ, nat_le, ◌==◌, if◌then◌else◌, List, [], ◌∷◌, Result, Ok, Err}
use Rattle.std.specs.List.{list_all}
use Rattle.pp_arith.specs.Octal.{is_octal, octal_value}
use Rattle.pp_lines.specs.Results.{◌>>=◌}
use Rattle.pp_command.specs.declared.fault.LineFault.{LineFault}
use Rattle.pp_command.specs.declared.fault.LineFault.TheVariants.{WordCount, NotANumber, OutOfRange}

-- The words of a line, or those after some of its words.
abbrev pub WordList : Type 0
WordList = List (List ℕ)

-- The number in a word, from 0 to a maximum. A word that is not octal is rejected with 03, and a number above its maximum with 04.
abbrev pub number_read : ℕ → List ℕ → Result ℕ LineFault
number_read most word =
    if is_octal word then (if nat_le (octal_value word) most then Ok (octal_value word) else Err OutOfRange) else Err NotANumber

-- If several words must be numbers, all are tested for octal digits before any range.
abbrev pub if_octal : {A : Type 0} → WordList → Result A LineFault → Result A LineFault
if_octal given read = if list_all is_octal given then read else Err NotANumber

-- A request without words after it.
unfoldable pub none : {A : Type 0} → A → WordList → Result A LineFault
none request [] = Ok request
none request _ = Err WordCount

-- The number in the only word.
unfoldable pub one : ℕ → WordList → Result ℕ LineFault
one most (word ∷ []) = number_read most word
one most _ = Err WordCount

-- The numbers in two words, each with its own maximum.
unfoldable pub two : ℕ → ℕ → WordList → Result (ℕ × ℕ) LineFault
two first second (x ∷ y ∷ []) =
    if_octal (x ∷ y ∷ []) (number_read first x >>= λ a. number_read second y >>= λ b. Ok (a, b))
two first second _ = Err WordCount

-- The numbers in three words, each with its own maximum.
unfoldable pub three : ℕ → ℕ → ℕ → WordList → Result (ℕ × ℕ × ℕ) LineFault
three first second third (x ∷ y ∷ z ∷ []) =
    if_octal (x ∷ y ∷ z ∷ [])
    (number_read first x >>= λ a. number_read second y >>= λ b. number_read third z >>= λ c. Ok (a, b, c))
three first second third _ = Err WordCount

-- The numbers in all words, with one maximum.
abbrev pub numbers : ℕ → WordList → Result (List ℕ) LineFault
numbers most [] = Ok []
numbers most (word ∷ others) = number_read most word >>= λ value. numbers most others >>= λ values. Ok (value ∷ values)

-- A count of 1 to 1000000 (octal), or 1 if there is no word.
unfoldable pub count : WordList → Result ℕ LineFault
count [] = Ok 1
count given = one 0o1000000 given >>= λ n. if n == 0 then Err OutOfRange else Ok n
