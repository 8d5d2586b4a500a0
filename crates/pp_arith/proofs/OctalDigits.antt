-- Octal digits, one after another, and how many a value has.
use Rattle.std.proofs.Common.{◌≡◌, ℕ, zero, suc, ◌+◌, ◌-◌, ◌*◌, ◌/◌, ◌%◌, ◌^◌, ◌<◌, ◌≤◌, List, [], ◌∷◌, ◌++◌, refl, arith}
use Rattle.std.proofs.Common.{append_assoc, max}
use Rattle.std.proofs.lemmas.{Bool.Decides.nat_tests, Grind.common_steps}
use Rattle.std.proofs.lemmas.Nat.{pow-add, shr_split, mod_below, pow_pos, mul-le}
use Rattle.std.proofs.Math.Nat.{pow-suc, pow-le-pow_right, max-eq_left}
use Rattle.pp_arith.specs.Octal.{octal_digits, octal_length}

-- one more digit
pub digit-next : (before : List ℕ) (left value : ℕ) → 0 < left →
    (before ++ (48 + value / 8 ^ (left - 1) % 8) ∷ []) ++ octal_digits (left - 1) value ≡ before ++ octal_digits left value
unfolding octal_digits
digit-next before zero value h = absurd (omega arith)
digit-next before (suc left) value h = grind (arith, append_assoc, common_steps)

-- an octal digit has three bits
pub three_bits : (digits : ℕ) → 2 ^ (3 * digits) ≡ 8 ^ digits
three_bits zero = refl
three_bits (suc digits) = grind (arith, pow-add 2 (3 * digits) 3, three_bits digits, pow-suc 8 digits)

-- what writing digits needs
pub ruleset digits_pushed = (common_steps, digit-next, three_bits)

-- a value with no bits above its last `width` digits is below 8 ^ width
pub fits : (width value : ℕ) → value / 2 ^ (3 * width) ≡ 0 → value < 8 ^ width
fits width value e =
    grind (arith, three_bits width, shr_split value (3 * width), mod_below value (2 ^ (3 * width)) (pow_pos (3 * width)))

pub exceeds : (width value : ℕ) → 0 < value / 2 ^ (3 * width) → 8 ^ width ≤ value
exceeds width value h = grind (
  arith,
  three_bits width,
  shr_split value (3 * width),
  mul-le 1 (2 ^ (3 * width)) (value / 2 ^ (3 * width)) (2 ^ (3 * width)) h,
)

pub grows : (low high : ℕ) → low ≤ high → 8 ^ low ≤ 8 ^ high
grows low high h = pow-le-pow_right {n = 8} (omega arith) h

-- a value that fits in `width` digits has no more than `width` digits
length-least : (places width value : ℕ) → value < 8 ^ width → octal_length places value ≤ width
unfolding octal_length
length-least zero width value h = omega arith
length-least (suc places) width value h = grind (arith, nat_tests, length-least places width value h, grows width places)

-- a value that does not fit in `width` digits has more than `width` digits
length-over : (places width value : ℕ) → 8 ^ width ≤ value → width < places → width < octal_length places value
unfolding octal_length
length-over zero width value h k = absurd (omega arith)
length-over (suc places) width value h k = grind (arith, nat_tests, length-over places width value h, grows places width)

pub length-most : (places value : ℕ) → octal_length places value ≤ places
unfolding octal_length
length-most zero value = omega arith
length-most (suc places) value = grind (arith, nat_tests, length-most places value)

pub widest-here : (width value : ℕ) → value / 2 ^ (3 * width) ≡ 0 → max width (octal_length 22 value) ≡ width
widest-here width value e = max-eq_left (length-least 22 width value (fits width value e))

pub widest-most : (width value : ℕ) → 22 ≤ width → max width (octal_length 22 value) ≡ width
widest-most width value h = max-eq_left (omega (arith, length-most 22 value))

pub widest-on : (width value : ℕ) → width < 22 → 0 < value / 2 ^ (3 * width) →
    max (width + 1) (octal_length 22 value) ≡ max width (octal_length 22 value)
widest-on width value h more = omega (arith, length-over 22 width value (exceeds width value more) h)

pub ruleset widths = (widest-here, widest-most, widest-on)
