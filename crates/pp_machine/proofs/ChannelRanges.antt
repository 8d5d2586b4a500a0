-- The numbers of the channels are in range, because those of each channel are.
use Rattle.std.proofs.Common.{ℕ, ◌≡◌, ◌≤◌, set, List, get_or, arith}
use Rattle.std.proofs.lemmas.{Grind.common_steps, Grind.elements, List.map-set, List.set-get_or, List.Elements.All-map}
use Rattle.pp_machine.specs.ChannelNumbers.{IsChannels, state_number, channel_numbers}
use Rattle.pp_machine.specs.declared.channel.{Channel.Channel, ChannelState.ChannelState}

state_in_range : (s : ChannelState) → state_number s ≤ 3
state_in_range _ = grind arith

pub channels_in_range : (channels : List Channel) (clock : ℕ) → clock ≤ 0o7777 → IsChannels (channel_numbers channels clock)
channels_in_range channels clock clock_in = record {
  states_in = All-map (λ n. n ≤ 3) (λ (c : Channel). state_number c.state) channels
      (λ k d h. state_in_range (get_or channels k d).state);
  registers_in = All-map (λ n. n ≤ 0o7777) (λ (c : Channel). c.word) channels (λ k d h. (get_or channels k d).word_in);
  clock_in = clock_in;
}

pub set_own : (xs : List ℕ) (i v : ℕ) → v ≡ get_or xs i 0 → set xs i v ≡ xs
set_own xs i v e = rw e (set-get_or xs i 0)

-- what replacing a channel needs
pub ruleset channel_lists = (common_steps, elements, map-set, set_own)
