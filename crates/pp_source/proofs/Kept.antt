-- Which numbers are kept.
use Rattle.std.proofs.Common.{◌≡◌, ℕ, ◌*◌, ◌%◌, ◌<◌, ◌≤◌, ◌^◌, ℤ, ◌*ℤ◌, None, Some, pos, arith, le-ltb, lt-ltb}
use Rattle.std.specs.Prelude.{unsigned_abs}
use Rattle.std.specs.Int.{int_shl, w64}
use Rattle.std.proofs.lemmas.Int.{to_z_pos, unsigned_abs-mul}
use Rattle.std.proofs.Math.Nat.{pow-le-pow_right}
use Rattle.pp_source.specs.Numbers.{kept}

pub is_kept : (number : ℤ) → unsigned_abs number < 2 ^ 63 → kept number ≡ Some number
is_kept number small = rw lt-ltb

pub is_not_kept : (number : ℤ) → 2 ^ 63 ≤ unsigned_abs number → kept number ≡ None
is_not_kept number great = rw le-ltb

pub product_is_kept : (a b : ℤ) → unsigned_abs a * unsigned_abs b < 2 ^ 63 → kept (a *ℤ b) ≡ Some (a *ℤ b)
product_is_kept a b small = is_kept (a *ℤ b) (rw unsigned_abs-mul small)

pub product_is_not_kept : (a b : ℤ) → 2 ^ 63 ≤ unsigned_abs a * unsigned_abs b → kept (a *ℤ b) ≡ None
product_is_not_kept a b great = is_not_kept (a *ℤ b) (rw unsigned_abs-mul great)

-- The product of a number that is not zero and a power of two.
pub shift_is_not_kept : (number : ℤ) (bits : ℕ) → 0 < unsigned_abs number → 62 < bits → kept (number *ℤ pos (2 ^ bits)) ≡ None
shift_is_not_kept number bits some great =
    let power : 2 ^ 63 ≤ 2 ^ bits = pow-le-pow_right (omega arith) great in
    product_is_not_kept number (pos (2 ^ bits)) (grind arith)

pub one_shifted : (bits : ℕ) → bits ≤ 62 → int_shl w64 (pos 1) bits ≡ pos (2 ^ bits)
one_shifted bits few =
    let power : 2 ^ bits ≤ 2 ^ 62 = pow-le-pow_right (omega arith) few in
    let small : (1 * 2 ^ bits) % 2 ^ 64 ≡ 2 ^ bits = omega arith in
    rw small (to_z_pos w64 (2 ^ bits) (omega arith))
