-- The words of a line that is made of words, and its bytes.
use Rattle.std.proofs.Common.{◌≡◌, ◌∙◌, ℕ, suc, ◌*◌, ◌-◌, ◌<◌, ◌≤◌, ◌==◌, ◌&&◌, Bool, true, false, not, nat_le, List, [], ◌∷◌, ◌++◌}
use Rattle.std.proofs.Common.{zero, ◌^◌, length, length-append, refl, ap, arith, max, nat_lt, slice_index, if◌then◌else◌, Ok, Err}
use Rattle.std.specs.List.{list_all}
use Rattle.std.proofs.lemmas.{Bool.Decides.nat_tests, Bool.and_parts, List.Folds.list_all-append}
use Rattle.pp_arith.specs.Octal.{octal_length, octal_text, octal_value, is_octal, is_octal_digit}
use Rattle.pp_arith.specs.OctalRead.{octal_read}
use Rattle.pp_arith.specs.declared.reading.OctalFault.TheVariants.{NotOctal, TooLarge}
use Rattle.pp_arith.proofs.{OctalTexts.text_read, OctalTexts.length-digits, OctalDigits.length-most}
use Rattle.pp_lines.specs.Lines.{extend_first, finished, without_return}
use Rattle.pp_lines.specs.Words.{words, is_blank, goes_on}

-- a printing character, and no blank
abbrev pub is_plain : ℕ → Bool
is_plain byte = nat_le 33 byte && nat_le byte 126

-- one or more printing characters, at most as many as an octal number has
pub record IsWord (word : List ℕ) : Type 0 where
  pub some : 0 < length word
  pub short : length word ≤ 22
  pub plain : list_all is_plain word ≡ true

abbrev pub AreWords : List (List ℕ) → Type 0
AreWords [] = Unit {0}
AreWords (word ∷ others) = IsWord word × AreWords others

-- the words, each after a blank
abbrev pub spaced : List (List ℕ) → List ℕ
spaced [] = []
spaced (word ∷ others) = 32 ∷ (word ++ spaced others)

plain-first : (byte : ℕ) (bytes : List ℕ) → list_all is_plain (byte ∷ bytes) ≡ true →
    (is_blank byte ≡ false) × (list_all is_plain bytes ≡ true)
plain-first byte bytes h = (grind (arith, nat_tests), grind (arith, nat_tests))

words-more : (byte : ℕ) (bytes : List ℕ) → is_blank byte ≡ false → goes_on bytes ≡ true →
    words (byte ∷ bytes) ≡ extend_first byte (words bytes)
unfolding words
words-more byte bytes e g = rw (e, g) refl

words-stop : (byte : ℕ) (bytes : List ℕ) → is_blank byte ≡ false → goes_on bytes ≡ false →
    words (byte ∷ bytes) ≡ (byte ∷ []) ∷ words bytes
unfolding words
words-stop byte bytes e g = rw (e, g) refl

-- a word, and what follows it
words-word : (word rest : List ℕ) → 0 < length word → list_all is_plain word ≡ true → goes_on rest ≡ false →
    words (word ++ rest) ≡ word ∷ words rest
words-word [] rest some plain stop = absurd (omega arith)
words-word (byte ∷ []) rest some plain stop = words-stop byte rest (plain-first byte [] plain).0 stop
words-word (byte ∷ next ∷ word) rest some plain stop =
    let first = plain-first byte (next ∷ word) plain in
    let second = plain-first next word first.1 in
    words-more byte (next ∷ (word ++ rest)) first.0 (ap not second.0)
    ∙ ap (extend_first byte) (words-word (next ∷ word) rest (omega arith) first.1 stop)

spaced-stops : (others : List (List ℕ)) → goes_on (spaced others) ≡ false
spaced-stops [] = refl
spaced-stops (word ∷ others) = refl

words-none : words [] ≡ []
unfolding words
words-none = refl

words-blank : (bytes : List ℕ) → words (32 ∷ bytes) ≡ words bytes
unfolding words
words-blank bytes = refl

pub words-spaced : (others : List (List ℕ)) → AreWords others → words (spaced others) ≡ others
words-spaced [] h = words-none
words-spaced (word ∷ others) h = words-blank (word ++ spaced others)
    ∙ words-word word (spaced others) h.0.some h.0.plain (spaced-stops others)
    ∙ ap (λ rest. word ∷ rest) (words-spaced others h.1)

-- the words of a line
pub words-line : (word : List ℕ) (others : List (List ℕ)) → IsWord word → AreWords others →
    words (word ++ spaced others) ≡ word ∷ others
words-line word others h k = words-word word (spaced others) h.some h.plain (spaced-stops others)
    ∙ ap (λ rest. word ∷ rest) (words-spaced others k)

pub length-spaced : (others : List (List ℕ)) → AreWords others → length (spaced others) ≤ 23 * length others
length-spaced [] h = omega arith
length-spaced (word ∷ others) h = omega (arith, length-append word (spaced others), length-spaced others h.1, h.0.short)

-- ---- the bytes of a line

-- a printing character or a blank
abbrev pub is_of_line : ℕ → Bool
is_of_line byte = nat_le 32 byte && nat_le byte 126

pub list_all-implied : (p q : ℕ → Bool) → ((byte : ℕ) → p byte ≡ true → q byte ≡ true) →
    (bytes : List ℕ) → list_all p bytes ≡ true → list_all q bytes ≡ true
list_all-implied p q implied [] h = refl
list_all-implied p q implied (byte ∷ bytes) h =
    let both = and_parts (p byte) (list_all p bytes) h in
    rw (implied byte both.0, list_all-implied p q implied bytes both.1) refl

plain-of_line : (byte : ℕ) → is_plain byte ≡ true → is_of_line byte ≡ true
plain-of_line byte h = grind (arith, nat_tests)

pub spaced-of_line : (others : List (List ℕ)) → AreWords others → list_all is_of_line (spaced others) ≡ true
spaced-of_line [] h = refl
spaced-of_line (word ∷ others) h = list_all-append is_of_line word (spaced others)
    ∙ rw (list_all-implied is_plain is_of_line plain-of_line word h.0.plain, spaced-of_line others h.1) refl

pub line-of_line : (word : List ℕ) (others : List (List ℕ)) → IsWord word → AreWords others →
    list_all is_of_line (word ++ spaced others) ≡ true
line-of_line word others h k = list_all-append is_of_line word (spaced others)
    ∙ rw (list_all-implied is_plain is_of_line plain-of_line word h.plain, spaced-of_line others k) refl

of_line-first : (byte : ℕ) (bytes : List ℕ) → list_all is_of_line (byte ∷ bytes) ≡ true →
    ((byte == 10) ≡ false) × ((byte == 13) ≡ false) × (list_all is_of_line bytes ≡ true)
of_line-first byte bytes h = (grind (arith, nat_tests), grind (arith, nat_tests), grind (arith, nat_tests))

-- it has no line feed
pub finished-of_line : (bytes : List ℕ) → list_all is_of_line bytes ≡ true → finished bytes ≡ []
finished-of_line [] h = refl
finished-of_line (byte ∷ bytes) h = let first = of_line-first byte bytes h in
    rw (first.0, finished-of_line bytes first.2) refl

-- and no carriage return
no_return : (bytes : List ℕ) (k : ℕ) → list_all is_of_line bytes ≡ true → (slice_index bytes k == 13) ≡ false
no_return [] k h = refl
no_return (byte ∷ bytes) zero h = (of_line-first byte bytes h).1
no_return (byte ∷ bytes) (suc k) h = no_return bytes k (of_line-first byte bytes h).2

pub without_return-of_line : (bytes : List ℕ) → list_all is_of_line bytes ≡ true → without_return bytes ≡ bytes
without_return-of_line bytes h = rw (no_return bytes (length bytes - 1) h) refl

-- ---- numbers in octal

-- a word that is a number in octal
pub record IsNumber (word : List ℕ) (number : ℕ) : Type 0 where
  pub octal : is_octal word ≡ true
  pub value : octal_value word ≡ number
  pub short : length word ≤ 22

octal_from_read : (word : List ℕ) (most value : ℕ) → octal_read word most ≡ Ok value →
    (is_octal word ≡ true) × (octal_value word ≡ value)
octal_from_read word most value h = by_tests (is_octal word) (nat_le (octal_value word) most) h
  where
    by_tests : (b c : Bool) →
        (if b then (if c then Ok (octal_value word) else Err TooLarge) else Err NotOctal) ≡ Ok value →
        (b ≡ true) × (octal_value word ≡ value)
    by_tests true true e = (refl, cc)
    by_tests true false e = cc
    by_tests false c e = cc

-- a number is written in octal
pub number_text : (value : ℕ) → value < 2 ^ 64 → IsNumber (octal_text value 1) value
unfolding octal_text
number_text value h =
    let read = octal_from_read (octal_text value 1) value value (text_read value 1 value (omega arith) h (omega arith)) in
    record {
      octal = read.0;
      value = read.1;
      short = rw (length-digits (max 1 (octal_length 22 value)) value) (omega (arith, length-most 22 value));
    }

digit-plain : (byte : ℕ) → is_octal_digit byte ≡ true → is_plain byte ≡ true
digit-plain byte h = grind (arith, nat_tests)

pub number-word : (word : List ℕ) (value : ℕ) → IsNumber word value → IsWord word
number-word word value h =
    let both = and_parts (nat_lt 0 (length word)) (list_all is_octal_digit word) h.octal in
    record {
      some = grind (arith, nat_tests);
      short = h.short;
      plain = list_all-implied is_octal_digit is_plain digit-plain word both.1;
    }
