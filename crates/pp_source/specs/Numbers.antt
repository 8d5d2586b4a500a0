-- Numbers and counters, read from left to right.
use Rattle.std.specs.Prelude.{ℕ, ℤ, ◌^◌, ◌==◌, ◌&&◌, ◌||◌, nat_lt, not, Bool, true, Option, Some, None, List, [], ◌∷◌}
use Rattle.std.specs.Prelude.{codes, drop, min, take, unsigned_abs, if◌then◌else◌}
use Rattle.pp_decks.specs.Blanks.{is_among}
use Rattle.pp_notation.specs.Digits.{number_in}
use Rattle.pp_source.specs.Scan.{digits_size, goes_on}
use Rattle.pp_source.specs.declared.numbers.Number.{Number}

-- A number that is kept has 63 bits and a sign.
abbrev pub kept : ℤ → Option ℤ
kept number = if nat_lt (unsigned_abs number) (2 ^ 63) then Some number else None

-- A number as it is written: its digits, B, D or O behind them, by how many bits it is shifted, and what follows.
pub record Written : Type 0 where
  pub digits : List ℕ
  pub letter : Option ℕ
  pub shift : ℕ
  pub rest : List ℕ

abbrev pub written : Number → Written
written number = record {
  digits = number.digits.now;
  letter = number.letter;
  shift = number.shift;
  rest = number.rest.now;
}

-- B, D or O, if a text begins with it, and what follows.
abbrev pub letter_at : List ℕ → Option ℕ × List ℕ
letter_at [] = (None, [])
letter_at (c ∷ text) = if is_among (codes "BDO") c then (Some c, text) else (None, c ∷ text)

-- The bits of a shift, S with one or two digits, or else 0, and what follows.
abbrev pub shift_at : List ℕ → ℕ × List ℕ
shift_at [] = (0, [])
shift_at (c ∷ text) =
    let size = min 2 (digits_size text) in
    if c == 83 && not (size == 0) then (number_in 10 (take size text), drop size text) else (0, c ∷ text)

-- The number with these digits, if neither a letter nor a digit, . or $ follows.
abbrev pub number_with : List ℕ → Option ℕ → ℕ × List ℕ → Option Written
number_with digits letter shift =
    if goes_on (codes ".$") shift.1 then None
    else Some (record { digits = digits; letter = letter; shift = shift.0; rest = shift.1 })

-- The number that a text begins with.
unfoldable pub number_at : List ℕ → Option Written
number_at text =
    let size = digits_size text in
    let letter = letter_at (drop size text) in
    if size == 0 then None else number_with (take size text) letter.0 (shift_at letter.1)

-- Whether a second * ends an element: nothing follows, or an operator that is no third *.
abbrev pub ends_element : List ℕ → Bool
ends_element [] = true
ends_element (c ∷ text) = is_among (codes "+-/") c

-- L or O of the counter whose * is before a text, or the second * of **, and what follows. * alone is *L.
abbrev pub counter_at : List ℕ → ℕ × List ℕ
counter_at [] = (76, [])
counter_at (c ∷ text) =
    if c == 42 && ends_element text || is_among (codes "LO") c && not (goes_on (codes ".$=") text) then (c, text)
    else (76, c ∷ text)
