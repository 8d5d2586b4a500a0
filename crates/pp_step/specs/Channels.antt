-- How an instruction sees channel c. 00 to 13 are the data channels, and 14 is the real-time clock.
use Rattle.std.specs.Prelude.{ℕ, List, Bool, ◌==◌, ◌&&◌, ◌||◌, nat_lt, slice_index}
use Rattle.pp_machine.specs.{ChannelNumbers.state_number, declared.channel.ChannelState.ChannelState}

-- Channel 14 is the real-time clock. [M16]
abbrev pub is_clock : ℕ → Bool
is_clock c = c == 0o14

-- Channel c is a data channel, 00 to 13, in this state. So 15 to 77, which name no channel, are in no state. [P9, P13]
abbrev pub is_in : ChannelState → ℕ → List ℕ → Bool
is_in state c states = nat_lt c 0o14 && slice_index states c == state_number state

-- Channel c tests as active. The clock always does. A data channel does in the states 1, 2 and 3, and 15 to 77 never do.
-- [M14, M16, P9, P13]
abbrev pub is_active : ℕ → List ℕ → Bool
is_active c states = is_clock c || (nat_lt c 0o14 && nat_lt 0 (slice_index states c))

-- Channel c tests as full. The clock always does. A data channel does in the states 2 and 3 both, full with data and full
-- with a function code, and 15 to 77 never do. [M14, M16, P9, P13]
abbrev pub is_full : ℕ → List ℕ → Bool
is_full c states = is_clock c || (nat_lt c 0o14 && nat_lt 1 (slice_index states c))
