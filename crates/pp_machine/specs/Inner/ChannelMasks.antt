-- Sets of channels as numbers: channel c is in the set if bit c is 1.
use Rattle.std.specs.Prelude.{ℕ, ◌≡◌, ◌^◌, List, bit_or, slice_index}
use Rattle.std.specs.Int.{bit_at}
use Rattle.pp_machine.specs.Prelude.{state_number}
use Rattle.pp_machine.specs.declared.channel.ChannelState.TheVariants.{Inactive}

-- the set with channel c added
abbrev pub mask_with : ℕ → ℕ → ℕ
mask_with mask c = bit_or mask (2 ^ c)

-- Each active channel is in the set. The states have channel 00 first.
abbrev pub HasActive : ℕ → List ℕ → Type 0
HasActive mask states = (c : ℕ) → bit_at mask c ≡ 0 → slice_index states c ≡ state_number Inactive

-- no channel in the set is active
abbrev pub AreInactive : ℕ → List ℕ → Type 0
AreInactive mask states = (c : ℕ) → bit_at mask c ≡ 1 → slice_index states c ≡ state_number Inactive
