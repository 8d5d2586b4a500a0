-- An atom is read from its text, and from what is behind it: the end, a sign, or an operator.
use Rattle.std.proofs.Common.{◌≡◌, ◌∙◌, ℕ, suc, ◌<◌, ◌==◌, ◌&&◌, ◌||◌, not, Bool, true, false, List, [], ◌∷◌, ◌++◌, ap}
use Rattle.std.proofs.Common.{append_assoc, if◌then◌else◌, inl, inr, length, map, nat_le, nat_lt, refl, subst, sym, take, Some, None, pos}
use Rattle.std.proofs.lemmas.Bool.{agree_below_at, and_parts, cases_Bool, cond-false, eqb-true, false≢true, ltb-true, not-true}
use Rattle.std.proofs.lemmas.List.{length-map, take_at}
use Rattle.std.specs.List.{list_all}
use Rattle.pp_notation.specs.DisplayCode.{display_code, symbol}
use Rattle.pp_meaning.specs.Lines.{atom_text, letter, short_name, full_name}
use Rattle.pp_meaning.specs.Names.{has_name_behind, is_name, is_sign, begins}
use Rattle.pp_meaning.specs.Numbers.{are_digits, decimal_number, value_from}
use Rattle.pp_meaning.specs.Qualifiers.{Names, is_in_qualifier}
use Rattle.pp_meaning.specs.Texts.{are_codes, is_exact}
use Rattle.pp_meaning.specs.declared.expressions.Atom.{Atom}
use Rattle.pp_meaning.specs.declared.expressions.Atom.TheVariants.{Number, Name, Qualified, Here, LocationCounter}
use Rattle.pp_meaning.specs.declared.expressions.Atom.TheVariants.{OriginCounter, Nothing, Symbols, Shifted}
use Rattle.pp_meaning.specs.declared.expressions.Radix.{Radix}
use Rattle.pp_meaning.specs.declared.expressions.Radix.TheVariants.{B, O, D, Plain}
use Rattle.pp_meaning.specs.declared.expressions.Sign.{Sign}
use Rattle.pp_meaning.specs.declared.expressions.Sign.TheVariants.{Plus, Minus, Differ}
use Rattle.pp_meaning_laws.specs.Cuts.{SeenAtom, Digits, Written, Star, StarL, StarO, StarStar, ShiftedDigits, Codes, seen_atom}
use Rattle.pp_meaning_laws.specs.Cuts.{is_nothing, is_right_atom, is_written}

-- ---- what is behind an atom

pub data Rest : Type 0 where
  Stop : Rest
  Signed : Sign → List ℕ → Rest
  Factored : Bool → List ℕ → Rest

abbrev pub rest_text : Rest → List ℕ
rest_text Stop = []
rest_text (Signed Plus bytes) = 43 ∷ bytes
rest_text (Signed Minus bytes) = 45 ∷ bytes
rest_text (Signed Differ bytes) = 94 ∷ bytes
rest_text (Factored true bytes) = 47 ∷ bytes
rest_text (Factored false bytes) = 42 ∷ bytes

abbrev pub rest_at : List ℕ → Rest
rest_at [] = Stop
rest_at (byte ∷ bytes) =
    if byte == 43 then Signed Plus bytes else (if byte == 45 then Signed Minus bytes else (if byte == 94 then Signed Differ bytes
    else Factored (byte == 47) bytes))

pub rest_back : (r : Rest) → rest_at (rest_text r) ≡ r
rest_back Stop = refl
rest_back (Signed Plus bytes) = refl
rest_back (Signed Minus bytes) = refl
rest_back (Signed Differ bytes) = refl
rest_back (Factored true bytes) = refl
rest_back (Factored false bytes) = refl

pub rest_same : (r s : Rest) → rest_text r ≡ rest_text s → r ≡ s
rest_same r s e = sym (rest_back r) ∙ ap rest_at e ∙ rest_back s

-- Whether a term ends here.
abbrev pub is_end : List ℕ → Bool
is_end [] = true
is_end (byte ∷ bytes) = byte == 43 || byte == 45 || byte == 94

-- ---- bytes up to a byte of another kind

abbrev before : (ℕ → Bool) → List ℕ → List ℕ
before p [] = []
before p (x ∷ xs) = if p x then x ∷ before p xs else []

abbrev behind : (ℕ → Bool) → List ℕ → List ℕ
behind p [] = []
behind p (x ∷ xs) = if p x then behind p xs else x ∷ xs

abbrev starts : (ℕ → Bool) → List ℕ → Bool
starts p [] = false
starts p (x ∷ xs) = p x

before_all : (p : ℕ → Bool) (xs r : List ℕ) → list_all p xs ≡ true → starts p r ≡ false → before p (xs ++ r) ≡ xs
before_all p [] [] all stop = refl
before_all p [] (y ∷ r) all stop = rw stop refl
before_all p (x ∷ xs) r all stop =
    let parts = and_parts (p x) (list_all p xs) all in
    rw (parts.0) (ap (λ ys. x ∷ ys) (before_all p xs r parts.1 stop))

behind_all : (p : ℕ → Bool) (xs r : List ℕ) → list_all p xs ≡ true → starts p r ≡ false → behind p (xs ++ r) ≡ r
behind_all p [] [] all stop = refl
behind_all p [] (y ∷ r) all stop = rw stop refl
behind_all p (x ∷ xs) r all stop =
    let parts = and_parts (p x) (list_all p xs) all in
    rw (parts.0) (behind_all p xs r parts.1 stop)

-- A byte of a kind differs from one of another kind.
pub differs : (p : ℕ → Bool) (x y : ℕ) → p x ≡ true → p y ≡ false → (x == y) ≡ false
differs p x y is other = elim (cases_Bool (x == y)) [
  | inl same ↦ absurd (false≢true (sym other ∙ subst (λ z. p z ≡ true) (eqb-true x y same) is))
  | inr apart ↦ apart
]

-- ---- the reading of an atom

abbrev is_digit : ℕ → Bool
is_digit byte = nat_le 48 byte && nat_le byte 57

abbrev place_in : List ℕ → ℕ → ℕ
place_in [] byte = 0
place_in (x ∷ xs) byte = if x == byte then 0 else suc (place_in xs byte)

abbrev code_of : ℕ → ℕ
code_of byte = place_in display_code byte

abbrev shifted_at : List ℕ → Radix → List ℕ → SeenAtom
shifted_at digits radix [] = Digits digits radix
shifted_at digits radix (byte ∷ bytes) =
    if byte == 83 then ShiftedDigits digits radix (before is_digit bytes) else Digits digits radix

abbrev number_at : List ℕ → List ℕ → SeenAtom
number_at digits [] = Digits digits Plain
number_at digits (byte ∷ bytes) =
    if byte == 66 then shifted_at digits B bytes else (if byte == 79 then shifted_at digits O bytes else
    (if byte == 68 then shifted_at digits D bytes else
    (if byte == 82 then Codes digits (map code_of (take (value_from 10 0 digits) bytes)) else
    shifted_at digits Plain (byte ∷ bytes))))

-- Of a name after its first slash.
abbrev named_at : List ℕ → List ℕ
named_at [] = []
named_at (byte ∷ bytes) = if byte == 47 then byte ∷ before is_sign bytes else byte ∷ named_at bytes

abbrev star_at : List ℕ → SeenAtom
star_at [] = Star
star_at (byte ∷ bytes) = if byte == 76 then StarL else (if byte == 79 then StarO else
    (if byte == 42 && is_end bytes then StarStar else Star))

abbrev other_at : List ℕ → SeenAtom
other_at [] = Star
other_at (byte ∷ bytes) = if byte == 42 then star_at bytes else
    Written (if byte == 47 then byte ∷ named_at bytes else before is_sign (byte ∷ bytes))

abbrev pub atom_at : List ℕ → SeenAtom
atom_at bytes = if starts is_digit bytes then number_at (before is_digit bytes) (behind is_digit bytes) else other_at bytes

-- ---- numbers

starts_digits : (xs r : List ℕ) → are_digits 57 xs ≡ true → starts is_digit (xs ++ r) ≡ true
starts_digits [] r is = absurd (false≢true is)
starts_digits (x ∷ xs) r is = (and_parts (is_digit x) (list_all is_digit xs) is).0

all_digits : (xs : List ℕ) → are_digits 57 xs ≡ true → list_all is_digit xs ≡ true
all_digits [] is = refl
all_digits (x ∷ xs) is = is

digits_at : (xs r : List ℕ) → are_digits 57 xs ≡ true → starts is_digit r ≡ false → atom_at (xs ++ r) ≡ number_at xs r
digits_at xs r is stop = rw (
  starts_digits xs r is,
  before_all is_digit xs r (all_digits xs is) stop,
  behind_all is_digit xs r (all_digits xs is) stop,
) refl

no_digit : (r : Rest) → starts is_digit (rest_text r) ≡ false
no_digit Stop = refl
no_digit (Signed Plus bytes) = refl
no_digit (Signed Minus bytes) = refl
no_digit (Signed Differ bytes) = refl
no_digit (Factored true bytes) = refl
no_digit (Factored false bytes) = refl

no_shift : (xs : List ℕ) (radix : Radix) (r : Rest) → shifted_at xs radix (rest_text r) ≡ Digits xs radix
no_shift xs radix Stop = refl
no_shift xs radix (Signed Plus bytes) = refl
no_shift xs radix (Signed Minus bytes) = refl
no_shift xs radix (Signed Differ bytes) = refl
no_shift xs radix (Factored true bytes) = refl
no_shift xs radix (Factored false bytes) = refl

no_letter : (xs : List ℕ) (r : Rest) → number_at xs (rest_text r) ≡ Digits xs Plain
no_letter xs Stop = refl
no_letter xs (Signed Plus bytes) = refl
no_letter xs (Signed Minus bytes) = refl
no_letter xs (Signed Differ bytes) = refl
no_letter xs (Factored true bytes) = refl
no_letter xs (Factored false bytes) = refl

letter_stops : (radix : Radix) (r : List ℕ) → starts is_digit r ≡ false → starts is_digit (letter radix ++ r) ≡ false
letter_stops B r stop = refl
letter_stops O r stop = refl
letter_stops D r stop = refl
letter_stops Plain r stop = stop

letter_read : (xs : List ℕ) (radix : Radix) (r : Rest) → number_at xs (letter radix ++ rest_text r) ≡ Digits xs radix
letter_read xs B r = no_shift xs B r
letter_read xs O r = no_shift xs O r
letter_read xs D r = no_shift xs D r
letter_read xs Plain r = no_letter xs r

number_read : (xs : List ℕ) (radix : Radix) (r : Rest) → are_digits 57 xs ≡ true →
    atom_at ((xs ++ letter radix) ++ rest_text r) ≡ Digits xs radix
number_read xs radix r is = rw append_assoc
    (digits_at xs (letter radix ++ rest_text r) is (letter_stops radix (rest_text r) (no_digit r)) ∙ letter_read xs radix r)

shift_read : (xs : List ℕ) (radix : Radix) (bytes : List ℕ) →
    number_at xs (letter radix ++ 83 ∷ bytes) ≡ ShiftedDigits xs radix (before is_digit bytes)
shift_read xs B bytes = refl
shift_read xs O bytes = refl
shift_read xs D bytes = refl
shift_read xs Plain bytes = refl

shifted_read : (xs : List ℕ) (radix : Radix) (shift : List ℕ) (r : Rest) → are_digits 57 xs ≡ true → are_digits 57 shift ≡ true →
    atom_at ((((xs ++ letter radix) ++ (83 ∷ [])) ++ shift) ++ rest_text r) ≡ ShiftedDigits xs radix shift
shifted_read xs radix shift r is also =
    let joined : (((xs ++ letter radix) ++ (83 ∷ [])) ++ shift) ++ rest_text r
    ≡ xs ++ (letter radix ++ 83 ∷ (shift ++ rest_text r)) = simp append_assoc in
    rw joined
    (digits_at xs (letter radix ++ 83 ∷ (shift ++ rest_text r)) is (letter_stops radix (83 ∷ (shift ++ rest_text r)) refl)
    ∙ shift_read xs radix (shift ++ rest_text r)
    ∙ ap (λ ys. ShiftedDigits xs radix ys) (before_all is_digit shift (rest_text r) (all_digits shift also) (no_digit r)))

-- ---- symbols

code_back : (code : ℕ) → code < 64 → code_of (symbol code) ≡ code
code_back code below =
    eqb-true (code_of (symbol code)) code (agree_below_at (λ c. code_of (symbol c) == c) (λ c. true) 64 code refl below)

codes_back : (items : List ℕ) → are_codes items ≡ true → map code_of (map symbol items) ≡ items
codes_back [] all = refl
codes_back (code ∷ items) all =
    let parts = and_parts (nat_lt code 64) (are_codes items) all in
    rw (code_back code (ltb-true code 64 parts.0), codes_back items parts.1) refl

count_is : (xs : List ℕ) (count : ℕ) → is_exact (decimal_number xs) count ≡ true →
    (are_digits 57 xs ≡ true) × (count ≡ value_from 10 0 xs)
count_is xs count is = elim (cases_Bool (are_digits 57 xs)) [
  | inl are ↦ (
    are,
    eqb-true count (value_from 10 0 xs) (subst
        (λ b. is_exact (if b then Some (pos (value_from 10 0 xs)) else None) count ≡ true) are is),
  )
  | inr none ↦ absurd (false≢true
      (subst (λ b. is_exact (if b then Some (pos (value_from 10 0 xs)) else None) count ≡ true) none is))
]

symbols_read : (xs items bytes : List ℕ) → are_codes items ≡ true → is_exact (decimal_number xs) (length items) ≡ true →
    atom_at (((xs ++ (82 ∷ [])) ++ map symbol items) ++ bytes) ≡ Codes xs items
symbols_read xs items bytes all is =
    let exact = count_is xs (length items) is in
    let joined : ((xs ++ (82 ∷ [])) ++ map symbol items) ++ bytes ≡ xs ++ (82 ∷ (map symbol items ++ bytes)) = simp append_assoc in
    rw joined
    (digits_at xs (82 ∷ (map symbol items ++ bytes)) exact.0 refl
    ∙ ap (λ ys. Codes xs (map code_of ys))
    (take_at (map symbol items) bytes (value_from 10 0 xs) (length-map items symbol ∙ exact.1))
    ∙ ap (λ ys. Codes xs ys) (codes_back items all))

-- ---- names

no_sign : (r : Rest) → starts is_sign (rest_text r) ≡ false
no_sign Stop = refl
no_sign (Signed Plus bytes) = refl
no_sign (Signed Minus bytes) = refl
no_sign (Signed Differ bytes) = refl
no_sign (Factored true bytes) = refl
no_sign (Factored false bytes) = refl

-- What holds of a name.
name_parts : (name : List ℕ) → is_name name ≡ true → (begins name ≡ true) × (list_all is_sign name ≡ true)
name_parts name is =
    let parts = and_parts (begins name && nat_le (length name) 8) (list_all is_sign name) is in
    ((and_parts (begins name) (nat_le (length name) 8) parts.0).0, parts.1)

behind_read : (name : List ℕ) (r : Rest) → has_name_behind name ≡ true → named_at (name ++ rest_text r) ≡ name
behind_read [] r is = absurd (false≢true is)
behind_read (x ∷ xs) r is = elim (cases_Bool (x == 47)) [
  | inl slash ↦
      let name : is_name xs ≡ true =
      subst (λ b. (if b then is_name xs else (is_in_qualifier x && has_name_behind xs)) ≡ true) slash is in
      rw slash (ap (λ ys. x ∷ ys) (before_all is_sign xs (rest_text r) (name_parts xs name).1 (no_sign r)))
  | inr other ↦
      let more : (is_in_qualifier x && has_name_behind xs) ≡ true =
      subst (λ b. (if b then is_name xs else (is_in_qualifier x && has_name_behind xs)) ≡ true) other is in
      rw other (ap (λ ys. x ∷ ys) (behind_read xs r (and_parts (is_in_qualifier x) (has_name_behind xs) more).1))
]

plain_read : (x : ℕ) (xs : List ℕ) (r : Rest) → (x == 47) ≡ false → is_name (x ∷ xs) ≡ true →
    atom_at ((x ∷ xs) ++ rest_text r) ≡ Written (x ∷ xs)
plain_read x xs r other is =
    let parts = name_parts (x ∷ xs) is in
    let first : (not (is_digit x) && not (x == 36) && not (x == 61)) ≡ true = parts.0 in
    let plain : not (is_digit x) ≡ true = (and_parts (not (is_digit x)) (not (x == 36))
    (and_parts (not (is_digit x) && not (x == 36)) (not (x == 61)) first).0).0 in
    let digit : is_digit x ≡ false = not-true (is_digit x) plain in
    let star : (x == 42) ≡ false = differs is_sign x 42 (and_parts (is_sign x) (list_all is_sign xs) parts.1).0 refl in
    rw (digit, star)
    (ap Written (cond-false (x == 47) (x ∷ named_at (xs ++ rest_text r)) (before is_sign (x ∷ (xs ++ rest_text r))) other)
    ∙ ap Written (before_all is_sign (x ∷ xs) (rest_text r) parts.1 (no_sign r)))

written_read : (name : List ℕ) (r : Rest) → is_written name ≡ true → atom_at (name ++ rest_text r) ≡ Written name
written_read [] r is = absurd (false≢true is)
written_read (x ∷ xs) r is = elim (cases_Bool (x == 47)) [
  | inl slash ↦
      let behind : has_name_behind xs ≡ true =
      subst (λ b. (if b then has_name_behind xs else is_name (x ∷ xs)) ≡ true) slash is in
      rw (eqb-true x 47 slash) (ap (λ ys. Written (47 ∷ ys)) (behind_read xs r behind))
  | inr other ↦ plain_read x xs r other
      (subst (λ b. (if b then has_name_behind xs else is_name (x ∷ xs)) ≡ true) other is)
]

-- ---- atoms

-- What may be behind an atom: a factor not behind **, and behind an operator more than the end.
abbrev pub Fits : Rest → Atom → Type 0
Fits (Factored is_quotient bytes) x = (is_nothing x ≡ false) × (is_end bytes ≡ false)
Fits Stop x = Unit {0}
Fits (Signed sign bytes) x = Unit {0}

here_read : (r : Rest) → Fits r Here → atom_at (42 ∷ rest_text r) ≡ Star
here_read Stop fits = refl
here_read (Signed Plus bytes) fits = refl
here_read (Signed Minus bytes) fits = refl
here_read (Signed Differ bytes) fits = refl
here_read (Factored true bytes) fits = refl
here_read (Factored false bytes) fits = rw (fits.1) refl

nothing_read : (r : Rest) → Fits r Nothing → atom_at (42 ∷ 42 ∷ rest_text r) ≡ StarStar
nothing_read Stop fits = refl
nothing_read (Signed Plus bytes) fits = refl
nothing_read (Signed Minus bytes) fits = refl
nothing_read (Signed Differ bytes) fits = refl
nothing_read (Factored is_quotient bytes) fits = absurd (false≢true (sym fits.0))

pub atom_read : (names : Names) (x : Atom) (r : Rest) → is_right_atom names x ≡ true → Fits r x →
    atom_at (atom_text names x ++ rest_text r) ≡ seen_atom names x
atom_read names (Number digits radix) r is fits = number_read digits.items radix r is
atom_read names (Name index) r is fits = written_read (short_name names index) r is
atom_read names (Qualified index) r is fits = written_read (full_name names index) r is
atom_read names Here r is fits = here_read r fits
atom_read names LocationCounter r is fits = refl
atom_read names OriginCounter r is fits = refl
atom_read names Nothing r is fits = nothing_read r fits
atom_read names (Shifted digits radix shift) r is fits =
    let parts = and_parts (are_digits 57 digits.items) (are_digits 57 shift.items) is in
    shifted_read digits.items radix shift.items r parts.0 parts.1
atom_read names (Symbols digits items) r is fits =
    let parts = and_parts (are_codes items.items) (is_exact (decimal_number digits.items) (length items.items)) is in
    symbols_read digits.items items.items (rest_text r) parts.0 parts.1

-- ---- an atom begins with no sign

no_end : (p : ℕ → Bool) (x : ℕ) → p x ≡ true → p 43 ≡ false → p 45 ≡ false → p 94 ≡ false →
    (x == 43 || x == 45 || x == 94) ≡ false
no_end p x is plus minus differ = rw (differs p x 43 is plus, differs p x 45 is minus, differs p x 94 is differ) refl

digits_begin : (xs r : List ℕ) → are_digits 57 xs ≡ true → is_end (xs ++ r) ≡ false
digits_begin [] r is = absurd (false≢true is)
digits_begin (x ∷ xs) r is = no_end is_digit x (and_parts (is_digit x) (list_all is_digit xs) is).0 refl refl refl

written_begin : (name r : List ℕ) → is_written name ≡ true → is_end (name ++ r) ≡ false
written_begin [] r is = absurd (false≢true is)
written_begin (x ∷ xs) r is = elim (cases_Bool (x == 47)) [
  | inl slash ↦ rw (eqb-true x 47 slash) refl
  | inr other ↦
      let name : is_name (x ∷ xs) ≡ true =
      subst (λ b. (if b then has_name_behind xs else is_name (x ∷ xs)) ≡ true) other is in
      no_end is_sign x (and_parts (is_sign x) (list_all is_sign xs) (name_parts (x ∷ xs) name).1).0 refl refl refl
]

pub atom_begin : (names : Names) (x : Atom) (r : List ℕ) → is_right_atom names x ≡ true →
    is_end (atom_text names x ++ r) ≡ false
atom_begin names (Number digits radix) r is = rw append_assoc (digits_begin digits.items (letter radix ++ r) is)
atom_begin names (Name index) r is = written_begin (short_name names index) r is
atom_begin names (Qualified index) r is = written_begin (full_name names index) r is
atom_begin names Here r is = refl
atom_begin names LocationCounter r is = refl
atom_begin names OriginCounter r is = refl
atom_begin names Nothing r is = refl
atom_begin names (Shifted digits radix shift) r is =
    let joined : (((digits.items ++ letter radix) ++ (83 ∷ [])) ++ shift.items) ++ r
    ≡ digits.items ++ (letter radix ++ 83 ∷ (shift.items ++ r)) = simp append_assoc in
    rw joined (digits_begin digits.items (letter radix ++ 83 ∷ (shift.items ++ r))
    (and_parts (are_digits 57 digits.items) (are_digits 57 shift.items) is).0)
atom_begin names (Symbols digits items) r is =
    let joined : ((digits.items ++ (82 ∷ [])) ++ map symbol items.items) ++ r
    ≡ digits.items ++ (82 ∷ (map symbol items.items ++ r)) = simp append_assoc in
    let exact = count_is digits.items (length items.items)
    (and_parts (are_codes items.items) (is_exact (decimal_number digits.items) (length items.items)) is).1 in
    rw joined (digits_begin digits.items (82 ∷ (map symbol items.items ++ r)) exact.0)
