-- The words of a line, one after another.
use Rattle.std.proofs.lemmas.{Bool.Decides.nat_tests, List.drop_all, List.Sums.prefix_len-le-length}
use Rattle.std.proofs.Common.{◌≡◌, ◌∙◌, ℕ, suc, ◌<◌, ◌≤◌, Bool, true, false, cond, List, [], ◌∷◌, length, take, drop, refl, sym, ap}
use Rattle.std.proofs.Common.{arith, one-add, None, Some, not, position, unwrap_or, nat_lt}
use Rattle.std.specs.List.{position_or_len}
use Rattle.pp_lines.specs.{Lines.extend_first, Words.is_blank, Words.goes_on, Words.words}
use Rattle.pp_lines.proofs.Writing.{slice_from}

-- the bytes of a word
abbrev pub is_letter : ℕ → Bool
is_letter byte = not (is_blank byte)

-- a blank begins no word
words-skip : (byte : ℕ) (bytes : List ℕ) → is_blank byte ≡ true → words (byte ∷ bytes) ≡ words bytes
unfolding words
words-skip byte bytes e = rw e refl

-- a letter in front of a word extends it
words-more : (byte : ℕ) (bytes : List ℕ) → is_blank byte ≡ false →
    goes_on bytes ≡ true → words (byte ∷ bytes) ≡ extend_first byte (words bytes)
unfolding words
words-more byte bytes e g = rw (e, g) refl

-- a letter that is followed by no other letter is a word
words-stop : (byte : ℕ) (bytes : List ℕ) → is_blank byte ≡ false →
    goes_on bytes ≡ false → words (byte ∷ bytes) ≡ (byte ∷ []) ∷ words bytes
unfolding words
words-stop byte bytes e g = rw (e, g) refl

-- the number of bytes before the first one that passes a test
pub len-stop : (test : ℕ → Bool) (byte : ℕ) (bytes : List ℕ) → test byte ≡ true → position_or_len test (byte ∷ bytes) ≡ 0
len-stop test byte bytes e = rw e refl

pub len-more : (test : ℕ → Bool) (byte : ℕ) (bytes : List ℕ) → test byte ≡ false →
    position_or_len test (byte ∷ bytes) ≡ suc (position_or_len test bytes)
len-more test byte bytes e = rw (e, one-add) refl

-- blanks before the first word
pub words-blanks : (text : List ℕ) → words text ≡ words (drop (position_or_len is_letter text) text)
words-blanks [] = refl
words-blanks (byte ∷ bytes) =
    let more = len-more is_letter byte bytes in
    let stop = len-stop is_letter byte bytes in
    grind (arith, nat_tests, more, stop, words-skip byte bytes, words-blanks bytes)

-- after the blanks a word begins, if any byte is left
pub letter-after : (text : List ℕ) → position_or_len is_letter text < length text →
    goes_on (drop (position_or_len is_letter text) text) ≡ true
letter-after [] h = absurd (omega arith)
letter-after (byte ∷ bytes) h =
    grind (arith, nat_tests, len-more is_letter byte bytes, len-stop is_letter byte bytes, letter-after bytes)

-- only blanks
pub words-all_blank : (text : List ℕ) → length text ≤ position_or_len is_letter text → words text ≡ []
unfolding words
words-all_blank text h = words-blanks text ∙ rw (drop_all (position_or_len is_letter text) text h)

no-letter : (byte : ℕ) → not (is_blank byte) ≡ true → is_blank byte ≡ false
no-letter byte h = grind (arith, nat_tests)

len-none : (bytes : List ℕ) → goes_on bytes ≡ false → position_or_len is_blank bytes ≡ 0
len-none [] e = refl
len-none (byte ∷ bytes) e = grind (arith, nat_tests, len-stop is_blank byte bytes)

-- the first word, and the others
pub words-first : (text : List ℕ) → goes_on text ≡ true →
    words text ≡ take (position_or_len is_blank text) text ∷ words (drop (position_or_len is_blank text) text)
words-first [] h = cc
words-first (byte ∷ bytes) h = by_test (goes_on bytes) refl (words-first bytes)
  where
    by_test : (more : Bool) → goes_on bytes ≡ more →
        (goes_on bytes ≡ true →
        words bytes ≡ take (position_or_len is_blank bytes) bytes ∷ words (drop (position_or_len is_blank bytes) bytes)) →
        words (byte ∷ bytes) ≡ take (position_or_len is_blank (byte ∷ bytes)) (byte ∷ bytes) ∷
        words (drop (position_or_len is_blank (byte ∷ bytes)) (byte ∷ bytes))
    by_test true g rest = rw (len-more is_blank byte bytes (no-letter byte h))
        (words-more byte bytes (no-letter byte h) g ∙ ap (extend_first byte) (rest g))
    by_test false g rest = rw (len-more is_blank byte bytes (no-letter byte h), len-none bytes g)
        (words-stop byte bytes (no-letter byte h) g)

pick-some : (n len i : ℕ) → cond (nat_lt n len) (Some n) None ≡ Some i → (n ≡ i) × (n < len)
pick-some n len i e = (grind (arith, nat_tests), grind (arith, nat_tests))

pick-none : (n len : ℕ) → cond (nat_lt n len) (Some n) None ≡ None → len ≤ n
pick-none n len e = grind (arith, nat_tests)

pick-or : (n len : ℕ) → n ≤ len → unwrap_or (cond (nat_lt n len) (Some n) None) len ≡ n
pick-or n len h = grind (arith, nat_tests)

-- the position of the first byte that passes a test, or the length of the text
pub position_or : (test : ℕ → Bool) (text : List ℕ) → unwrap_or (position test text) (length text) ≡ position_or_len test text
position_or test text = pick-or (position_or_len test text) (length text) (prefix_len-le-length (λ byte. not (test byte)) text)

-- no word
pub words-no_letter : (text : List ℕ) → position is_letter text ≡ None → words text ≡ []
words-no_letter text e = words-all_blank text (pick-none (position_or_len is_letter text) (length text) e)

-- the first word of a text, and the others
pub words-cut : (text : List ℕ) (start : ℕ) → position is_letter text ≡ Some start →
    take (position_or_len is_blank (drop start text)) (drop start text) ∷
    words (drop (position_or_len is_blank (drop start text)) (drop start text)) ≡ words text
words-cut text start e = let found = pick-some (position_or_len is_letter text) (length text) start e in
    rw (← found.0) (sym (words-blanks text ∙ words-first (drop (position_or_len is_letter text) text) (letter-after text found.1)))

-- what a cut after the first word needs
pub ruleset cuts = (words-no_letter, words-cut, slice_from)
