-- Bits and words, one on.
use Rattle.std.proofs.Common.{◌≡◌, ◌∙◌, ℕ, suc, ◌+◌, ◌-◌, ◌/◌, ◌%◌, ◌^◌, ◌<◌, List, []}
use Rattle.std.proofs.Common.{◌∷◌, ◌++◌, append_assoc, take, drop, ap, arith, sym}
use Rattle.pp_meaning.specs.Bits.{bits_of, number_from_bits, words_from}

bits_step : (size index number : ℕ) → index < size →
    bits_of (size - index) number ≡ (number / 2 ^ (size - index - 1) % 2) ∷ bits_of (size - (index + 1)) number
bits_step size index number below =
    let left : size - index ≡ suc (size - (index + 1)) = omega (arith, below) in
    let less : size - index - 1 ≡ size - (index + 1) = omega arith in
    rw less (ap (λ n. bits_of n number) left)

-- one bit more
pub bits_push : (bits : List ℕ) (size index number power upper : ℕ) (all : List ℕ) → index < size →
    power ≡ 2 ^ (size - index - 1) → upper ≡ number / power → bits ++ bits_of (size - index) number ≡ all →
    (bits ++ (upper % 2) ∷ []) ++ bits_of (size - (index + 1)) number ≡ all
bits_push bits size index number power upper all below is_power is_upper before =
    append_assoc bits ((upper % 2) ∷ []) (bits_of (size - (index + 1)) number)
    ∙ ap (λ u. bits ++ (u % 2) ∷ bits_of (size - (index + 1)) number) (is_upper ∙ ap (λ p. number / p) is_power)
    ∙ ap (λ l. bits ++ l) (sym (bits_step size index number below))
    ∙ before

pub no_bits : (size number : ℕ) → bits_of (size - size) number ≡ []
no_bits size number = let none : size - size ≡ 0 = omega arith in ap (λ n. bits_of n number) none

words_step : (count index : ℕ) (bits : List ℕ) → index < count →
    words_from (count - index) bits ≡ number_from_bits 0 (take 12 bits) ∷ words_from (count - (index + 1)) (drop 12 bits)
words_step count index bits below =
    let left : count - index ≡ suc (count - (index + 1)) = omega (arith, below) in ap (λ n. words_from n bits) left

-- one word more
pub words_push : (words : List ℕ) (count index word : ℕ) (bits rest all : List ℕ) → index < count →
    word ≡ number_from_bits 0 (take 12 bits) → rest ≡ drop 12 bits → words ++ words_from (count - index) bits ≡ all →
    (words ++ word ∷ []) ++ words_from (count - (index + 1)) rest ≡ all
words_push words count index word bits rest all below is_word is_rest before =
    append_assoc words (word ∷ []) (words_from (count - (index + 1)) rest)
    ∙ ap (λ r. words ++ word ∷ words_from (count - (index + 1)) r) is_rest
    ∙ ap (λ w. words ++ w ∷ words_from (count - (index + 1)) (drop 12 bits)) is_word
    ∙ ap (λ l. words ++ l) (sym (words_step count index bits below))
    ∙ before

pub no_words : (count : ℕ) (bits : List ℕ) → words_from (count - count) bits ≡ []
no_words count bits = let none : count - count ≡ 0 = omega arith in ap (λ n. words_from n bits) none
