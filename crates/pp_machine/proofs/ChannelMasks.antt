-- The mask of the active channels, before and after a channel changes.
use Rattle.std.proofs.Common.{ℕ, ◌≡◌, ◌≢◌, ◌<◌, ◌^◌, ◌*◌, ◌%◌, ◌∙◌, List, bit_and, bit_or, get_or, set, inl, inr, length, arith, sym}
use Rattle.std.specs.Int.{bit_at, bit_not, w16}
use Rattle.std.proofs.lemmas.Bool.{cases_eq, cases_lt}
use Rattle.std.proofs.lemmas.List.{get_or-set_same, get_or-set_other, get_or_past, set_past}
use Rattle.std.proofs.lemmas.Nat.{one_shl}
use Rattle.std.proofs.lemmas.Nat.Bits.{bit_at-zero, bit_at_above, bit_at-lt, bit_at_and, bit_at_or, bit_at-pow_same, bit_at_set_same, bit_at_set_other, bit_at_clear_other}
use Rattle.pp_machine.specs.Inner.ChannelMasks.{AreInactive, HasActive, mask_with}

pub shifted : (mask c : ℕ) → c < 12 → bit_or mask (1 * 2 ^ c % 2 ^ 16) ≡ mask_with mask c
shifted mask c within = rw (one_shl c 16 (omega (arith, within)))

module _ (active c : ℕ) (states : List ℕ) (within : c < 12) (has : HasActive active states) where
  small : c < 16
  small = omega (arith, within)

  -- a state after channel c has changed
  changed : (v k : ℕ) → (k ≡ c → get_or (set states c v) k 0 ≡ 0) → (k ≢ c → get_or states k 0 ≡ 0) → get_or (set states c v) k 0 ≡ 0
  changed v k own other =
      elim (cases_eq k c) [
        | inl e ↦ own e
        | inr differs ↦ get_or-set_other states c k v 0 differs ∙ other differs
      ]

  closed_now : (k : ℕ) → k ≡ c → get_or (set states c 0) k 0 ≡ 0
  closed_now k same =
      elim (cases_lt c (length states)) [
        | inl inside ↦ rw same (get_or-set_same states c 0 0 inside)
        | inr past ↦ rw (same, set_past states c 0 past) (get_or_past states c 0 past)
      ]

  pub opened : (v : ℕ) → HasActive (bit_or active (1 * 2 ^ c % 2 ^ 16)) (set states c v)
  opened v k clear =
      changed v k (λ same. absurd (omega (arith, rw same at clear, bit_at_set_same w16 active c small)))
      (λ differs. has k (sym (bit_at_set_other w16 active c small k differs) ∙ clear))

  pub closed : active < 2 ^ 16 → HasActive (bit_and active (bit_not w16 (1 * 2 ^ c % 2 ^ 16))) (set states c 0)
  closed range k clear =
      changed 0 k (closed_now k) (λ differs.
      elim (cases_lt k 16) [
        | inl below ↦ has k (sym (bit_at_clear_other w16 active c small k below differs) ∙ clear)
        | inr above ↦ has k (bit_at_above active 16 k range above)
      ])

-- if no bit is in both masks, no channel of the second is active
pub apart : (active mask : ℕ) (states : List ℕ) → HasActive active states → bit_and active mask ≡ 0 → AreInactive mask states
apart active mask states has none c on =
    let nothing : bit_at (bit_and active mask) c ≡ 0 = rw none (bit_at-zero c) in
    has c (omega (arith, on, bit_at_and active mask c, nothing, bit_at-lt active c))

-- a mask with a channel added has it, and the others
pub has-own : (mask c : ℕ) → bit_at (mask_with mask c) c ≡ 1
has-own mask c = omega (arith, bit_at_or mask (2 ^ c) c, bit_at-pow_same c, bit_at-lt mask c)

pub has-other : (mask c k : ℕ) → bit_at mask k ≡ 1 → bit_at (mask_with mask c) k ≡ 1
has-other mask c k on = omega (arith, on, bit_at_or mask (2 ^ c) k, bit_at-lt (2 ^ c) k)
