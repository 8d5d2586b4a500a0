-- The digits written for a value are read as that value.
use Rattle.std.proofs.Common.{◌≡◌, ◌∙◌, ℕ, zero, suc, ◌+◌, ◌-◌, ◌*◌, ◌/◌, ◌%◌, ◌^◌, ◌<◌, ◌≤◌, refl, ap, subst, arith, fold, max}
use Rattle.std.proofs.Common.{true, length, Ok, pow_pos}
use Rattle.std.specs.List.{list_all}
use Rattle.std.proofs.{lemmas.Bool.Decides.nat_tests, Math.Arith.mod-mul}
use Rattle.std.proofs.Math.Nat.{pow-succ', add-mul, mul_assoc, le-max_left, le-max_right, mod-eq_of_lt}
use Rattle.pp_arith.specs.Octal.{octal_digits, octal_length, octal_text, octal_value, is_octal, is_octal_digit}
use Rattle.pp_arith.specs.OctalRead.{octal_read}
use Rattle.pp_arith.proofs.{OctalDigits.three_bits, OctalDigits.grows, OctalValues.with_digit}

eights_pos : (digits : ℕ) → 0 < 8 ^ digits
eights_pos digits = subst (λ eights. 0 < eights) (three_bits digits) (pow_pos (3 * digits))

-- reading the digits appends them to the number read so far
digits-read : (digits before value : ℕ) →
    fold with_digit before (octal_digits digits value) ≡ before * 8 ^ digits + value % 8 ^ digits
unfolding octal_digits
digits-read zero before value = omega arith
digits-read (suc digits) before value =
    let digit : ℕ = value / 8 ^ digits % 8 in
    let one : before * 8 + (48 + digit - 48) ≡ before * 8 + digit = omega arith in
    let whole : value % (8 * 8 ^ digits) ≡ digit * 8 ^ digits + value % 8 ^ digits =
    mod-mul value (omega arith) (eights_pos digits) in
    let moved : (before * 8 + digit) * 8 ^ digits ≡ before * (8 * 8 ^ digits) + digit * 8 ^ digits =
    grind (arith, add-mul, mul_assoc) in
    ap (λ n. fold with_digit n (octal_digits digits value)) one ∙ digits-read digits (before * 8 + digit) value
    ∙ rw (pow-succ' 8 digits) (omega (arith, whole, moved))

length-fits : (places value : ℕ) → value < 8 ^ places → value < 8 ^ octal_length places value
unfolding octal_length
length-fits zero value h = h
length-fits (suc places) value h = grind (arith, nat_tests, length-fits places value)

pub text-value : (value digits : ℕ) → value < 2 ^ 64 → octal_value (octal_text value digits) ≡ value
unfolding octal_text
text-value value digits h =
    let width : ℕ = max digits (octal_length 22 value) in
    let wide = grows (octal_length 22 value) width (le-max_right digits (octal_length 22 value)) in
    let all : value % 8 ^ width ≡ value = mod-eq_of_lt (omega (arith, length-fits 22 value (omega arith), wide)) in
    digits-read width 0 value ∙ omega (arith, all)

digits-octal : (digits value : ℕ) → list_all is_octal_digit (octal_digits digits value) ≡ true
unfolding octal_digits
digits-octal zero value = refl
digits-octal (suc digits) value = grind (arith, nat_tests, digits-octal digits value)

pub length-digits : (digits value : ℕ) → length (octal_digits digits value) ≡ digits
unfolding octal_digits
length-digits zero value = refl
length-digits (suc digits) value = ap suc (length-digits digits value)

text-octal : (value digits : ℕ) → 1 ≤ digits → is_octal (octal_text value digits) ≡ true
unfolding octal_text
text-octal value digits some = let width : ℕ = max digits (octal_length 22 value) in
    grind (arith, nat_tests, length-digits width value, le-max_left digits (octal_length 22 value), digits-octal width value)

-- so the text of a value is read as that value
pub text_read : (value digits greatest : ℕ) → 1 ≤ digits → value < 2 ^ 64 →
    value ≤ greatest → octal_read (octal_text value digits) greatest ≡ Ok value
text_read value digits greatest some h within = grind (arith, nat_tests, text-octal value digits some, text-value value digits h)
