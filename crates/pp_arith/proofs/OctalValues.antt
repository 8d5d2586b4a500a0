-- The value of octal digits, read one after another.
use Rattle.std.proofs.Common.{◌≡◌, ◌∙◌, ℕ, ◌+◌, ◌-◌, ◌*◌, ◌<◌, ◌≤◌, true, List, [], ◌∷◌, length, take, drop, get_or, sym, ap, arith}
use Rattle.std.proofs.Common.{length-drop, fold, Err}
use Rattle.std.proofs.lemmas.{Bool.Decides.nat_tests, List.take-append-drop, List.take_more, List.Sums.fold-append}
use Rattle.pp_arith.specs.{declared.reading.OctalFault.TheVariants.TooLarge, Octal.octal_value, Octal.is_octal}
use Rattle.pp_arith.specs.OctalRead.{octal_read}

abbrev pub with_digit : ℕ → ℕ → ℕ
with_digit value digit = value * 8 + (digit - 48)

-- further digits never make a number smaller
value-grows : (value : ℕ) (digits : List ℕ) → value ≤ fold with_digit value digits
value-grows value [] = omega arith
value-grows value (digit ∷ digits) = omega (arith, value-grows (value * 8 + (digit - 48)) digits)

-- one or more further digits make the number at least eight times as large
value-times : (value : ℕ) (digits : List ℕ) → 0 < length digits → value * 8 ≤ fold with_digit value digits
value-times value [] h = absurd (omega arith)
value-times value (digit ∷ digits) h = omega (arith, value-grows (value * 8 + (digit - 48)) digits)

value-split : (word : List ℕ) (i : ℕ) → octal_value word ≡ fold with_digit (octal_value (take i word)) (drop i word)
value-split word i = ap octal_value (sym (take-append-drop i word)) ∙ fold-append with_digit 0 (take i word) (drop i word)

pub value-so_far : (word : List ℕ) (i : ℕ) → octal_value (take i word) ≤ octal_value word
value-so_far word i = omega (arith, value-split word i, value-grows (octal_value (take i word)) (drop i word))

pub value-before : (word : List ℕ) (i : ℕ) → i < length word → octal_value (take i word) * 8 ≤ octal_value word
value-before word i h =
    omega (arith, value-split word i, value-times (octal_value (take i word)) (drop i word) (simp length-drop (omega arith)))

-- a value above the maximum is an error
pub octal_read-over : (word : List ℕ) (max : ℕ) → is_octal word ≡ true → max < octal_value word → Err TooLarge ≡ octal_read word max
octal_read-over word max digits over = grind (arith, nat_tests)

-- the value with one more digit
pub value-next : (word : List ℕ) (i : ℕ) → i < length word →
    octal_value (take (i + 1) word) ≡ octal_value (take i word) * 8 + (get_or word i 0 - 48)
value-next word i h = ap octal_value (take_more word i 0 h) ∙ fold-append with_digit 0 (take i word) (get_or word i 0 ∷ [])

pub ruleset values = (value-so_far, value-before, octal_read-over, value-next)
