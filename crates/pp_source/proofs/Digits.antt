-- Digits read one after another.
use Rattle.std.proofs.Common.{◌≡◌, ◌∙◌, ℕ, zero, suc, ◌+◌, ◌-◌, ◌*◌, ◌<◌, ◌≤◌, ◌^◌, List, [], ◌∷◌, ◌++◌, None, pos, ap, arith, drop, get_or, length, take, fold}
use Rattle.std.proofs.lemmas.List.Sums.{fold-append, fold_more, prefix_len-le-length}
use Rattle.std.proofs.lemmas.Bool.Decides.{nat_tests}
use Rattle.std.proofs.lemmas.List.{take-append-drop}
use Rattle.std.proofs.Math.Nat.{mul-le-mul_left, mul-le-mul_right, mul_assoc, mul_comm, pow-le-pow_right, pow-suc}
use Rattle.pp_notation.specs.Digits.{number_in, with_digit}
use Rattle.pp_source.specs.Numbers.{kept}
use Rattle.pp_source.specs.Scan.{digits_size, is_digit}
use Rattle.pp_source.proofs.Kept.{is_not_kept}

-- The digits of a text are within it.
pub are_within : (text : List ℕ) → digits_size text ≤ length text
are_within text = prefix_len-le-length is_digit text

-- A number that grows with each item is at least what it was before some of them.
grows : (f : ℕ → ℕ → ℕ) → ((n x : ℕ) → n ≤ f n x) → (n : ℕ) (xs : List ℕ) → n ≤ fold f n xs
grows f each n [] = omega arith
grows f each n (x ∷ xs) = omega (arith, each n x, grows f each (f n x) xs)

pub grows_on : (f : ℕ → ℕ → ℕ) → ((n x : ℕ) → n ≤ f n x) → (n : ℕ) (xs : List ℕ) (i : ℕ) → fold f n (take i xs) ≤ fold f n xs
grows_on f each n xs i =
    let all : fold f n (take i xs ++ drop i xs) ≡ fold f (fold f n (take i xs)) (drop i xs) = fold-append f n (take i xs) (drop i xs) in
    let whole : fold f n (take i xs ++ drop i xs) ≡ fold f n xs = ap (fold f n) (take-append-drop i xs) in
    omega (arith, all, whole, grows f each (fold f n (take i xs)) (drop i xs))

pub more_digits : (radix n digit : ℕ) → 0 < radix → n ≤ n * radix + digit
more_digits zero n digit some = absurd (omega arith)
more_digits (suc radix) n digit some = omega (arith, mul-le-mul_left {m = 1} {n = suc radix} n (omega arith))

-- A number that is too great with some of its digits is so with all.
pub are_too_many : (radix : ℕ) (digits : List ℕ) (i number : ℕ) → i < length digits → number ≡ number_in radix (take i digits) →
    0 < radix → 2 ^ 63 ≤ number * radix + (get_or digits i 0 - 48) → kept (pos (number_in radix digits)) ≡ None
are_too_many radix digits i number within read some great =
    let one = fold_more (with_digit radix) 0 digits i 0 within in
    let rest = grows_on (with_digit radix) (λ n x. more_digits radix n (x - 48) some) 0 digits (i + 1) in
    let far : 2 ^ 63 ≤ with_digit radix (number_in radix (take i digits)) (get_or digits i 0) = rw (← read) great in
    is_not_kept (pos (number_in radix digits)) (omega (arith, one, rest, far))

-- So many digits write a number below a power of ten.
first_is_digit : (c : ℕ) (text : List ℕ) (size : ℕ) → suc size ≤ digits_size (c ∷ text) → (c ≤ 57) × (size ≤ digits_size text)
first_is_digit c text size within = grind (arith, nat_tests)

with_a_power : (x a b p q : ℕ) → x < a * p → a ≤ b * 10 → q ≡ p * 10 → x < b * q
with_a_power x a b p q small most next =
    let one : a * p ≤ (b * 10) * p = mul-le-mul_right p most in
    let two : (b * 10) * p ≡ b * (10 * p) = mul_assoc b 10 p in
    let three : b * q ≡ b * (10 * p) = ap (λ (k : ℕ). b * k) (next ∙ mul_comm p 10) in
    omega (arith, small, one, two, three)

is_bounded : (text : List ℕ) (n size : ℕ) → size ≤ digits_size text → fold (with_digit 10) n (take size text) < (n + 1) * 10 ^ size
is_bounded text n zero within = omega arith
is_bounded [] n (suc size) within = absurd (omega arith)
is_bounded (c ∷ text) n (suc size) within =
    let first = first_is_digit c text size within in
    let rest = is_bounded text (with_digit 10 n c) size first.1 in
    let one : with_digit 10 n c + 1 ≤ (n + 1) * 10 = omega (arith, first.0) in
    with_a_power _ (with_digit 10 n c + 1) (n + 1) (10 ^ size) (10 ^ suc size) rest one (pow-suc 10 size)

pub are_few : (text : List ℕ) (size : ℕ) → size ≤ digits_size text → size ≤ 9 → number_in 10 (take size text) < 2 ^ 32
are_few text size within few =
    let one = is_bounded text 0 size within in
    let most : 10 ^ size ≤ 10 ^ 9 = pow-le-pow_right (omega arith) few in
    omega (arith, one, most)
