-- Which actions a machine admits, and why it rejects the others.
use Rattle.std.specs.Prelude.{ℕ, ◌&&◌, ◌^◌, nat_lt, nat_le, Bool, true, List, length, Option, Some, None, is_none, if◌then◌else◌}
use Rattle.std.specs.List.{list_all}
use Rattle.pp_machine.specs.ChannelNumbers.{state_number}
use Rattle.pp_machine.specs.Machine.{Machine}
use Rattle.pp_machine.specs.Ranges.{processor_count, cell_count, channel_count, watch_count}
use Rattle.pp_machine.specs.declared.channel.ChannelState.TheVariants.{Function}
use Rattle.pp_actions.specs.Watches.{watches_of, is_watched}
use Rattle.pp_actions.specs.declared.watched.Watched.{Watched}
use Rattle.pp_actions.specs.declared.watched.Watched.TheVariants as watched
use Rattle.pp_actions.specs.declared.action.Action.{Action}
use Rattle.pp_actions.specs.declared.action.Action.TheVariants.{Turn, SetCells, SetA, SetP, SetQ, SetWord, SetChannel, Watch}
use Rattle.pp_actions.specs.declared.action.Action.TheVariants.{Unwatch, Deadstart}
use Rattle.pp_actions.specs.declared.action.ActionFault.{ActionFault}
use Rattle.pp_actions.specs.declared.action.ActionFault.TheVariants.{Range, WatchesFull, AlreadyWatched, NotWatched, NoPanel}

-- Whether a machine with this many central words has the place. Channel 14 is the clock. [P28]
abbrev pub is_watchable : ℕ → Watched → Bool
is_watchable size (watched.Cell n a) = nat_lt n processor_count && nat_lt a cell_count
is_watchable size (watched.RegA n) = nat_lt n processor_count
is_watchable size (watched.RegP n) = nat_lt n processor_count
is_watchable size (watched.RegQ n) = nat_lt n processor_count
is_watchable size (watched.Central a) = nat_lt a size
is_watchable size (watched.Register c) = nat_le c channel_count

-- No word, or one of twelve bits. [P27]
abbrev pub is_word_or_none : Option ℕ → Bool
is_word_or_none None = true
is_word_or_none (Some word) = nat_le word 0o7777

-- Whether every number of the action is in its range, in a machine with this many central words. At least one cell is set, and no
-- channel is set to `Function`. [P27]
abbrev pub is_in_range : ℕ → Action → Bool
is_in_range size Turn = true
is_in_range size (SetCells n a values) =
    nat_lt n processor_count &&
    (nat_lt a cell_count && (nat_lt 0 (length values) && list_all (λ value. nat_le value 0o7777) values))
is_in_range size (SetA n v) = nat_lt n processor_count && nat_le v 0o777777
is_in_range size (SetP n v) = nat_lt n processor_count && nat_le v 0o7777
is_in_range size (SetQ n v) = nat_lt n processor_count && nat_le v 0o7777
is_in_range size (SetWord a v) = nat_lt a size && nat_lt v (2 ^ 60)
is_in_range size (SetChannel c state word) =
    nat_lt c channel_count && (nat_lt (state_number state) (state_number Function) && is_word_or_none word)
is_in_range size (Watch w) = is_watchable size w
is_in_range size (Unwatch w) = is_watchable size w
is_in_range size Deadstart = true

-- Why an action whose numbers are in range is not admitted. A machine without a panel cannot be dead started. [P27, P28]
abbrev pub state_fault : Machine → Action → Option ActionFault
state_fault s (Watch w) =
    if nat_le watch_count (length (watches_of s)) then Some WatchesFull
    else (if is_watched s w then Some AlreadyWatched else None)
state_fault s (Unwatch w) = if is_watched s w then None else Some NotWatched
state_fault s Deadstart = if is_none s.setup.panel then Some NoPanel else None
state_fault s _ = None

-- Why an action is not admitted: the first cause that applies. [P27]
unfoldable pub first_fault : Machine → Action → Option ActionFault
first_fault s action = if is_in_range s.setup.central_words action then state_fault s action else Some Range
