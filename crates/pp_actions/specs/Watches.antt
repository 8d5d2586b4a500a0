-- The watched places of a machine, read from its eight watch entries.
use Rattle.std.specs.Prelude.{ℕ, ◌/◌, ◌%◌, ◌==◌, ◌≡◌, ◌≢◌, Bool, List, [], ◌∷◌, ◌≤◌, All, length, slice_index_or, if◌then◌else◌}
use Rattle.std.specs.List.{list_any, AllPairs}
use Rattle.pp_machine.specs.Prelude.{Machine, Has}
use Rattle.pp_machine.specs.Ranges.{watch_count}
use Rattle.pp_machine.specs.declared.place.Place.{Place}
use Rattle.pp_machine.specs.declared.place.Place.TheVariants as place
use Rattle.pp_actions.specs.WatchCodes.{watch_code, watch_entries}
use Rattle.pp_actions.specs.declared.watched.Watched.{Watched}
use Rattle.pp_actions.specs.declared.watched.Watched.TheVariants.{Cell, RegA, RegP, RegQ, Central, Register}

-- The place of the machine that is watched. Channel 14 is the clock. [P28]
abbrev pub watched_place : Watched → Place
watched_place (Cell n a) = place.Cell n a
watched_place (RegA n) = place.RegA n
watched_place (RegP n) = place.RegP n
watched_place (RegQ n) = place.RegQ n
watched_place (Central a) = place.Central a
watched_place (Register c) = if c == 0o14 then place.Clock else place.ChannelWord c

-- The watched place with a code: its kind is 1 to 5 in this order, or else it is a channel's register. [P28]
unfoldable pub watched_at : ℕ → Watched
watched_at code =
    let rest = code % 0o10000000 in
    slice_index_or
    (Register rest ∷ Cell (rest / 0o10000) (rest % 0o10000) ∷ RegA rest ∷ RegP rest ∷ RegQ rest ∷ Central rest ∷ [])
    (code / 0o10000000) (Register rest)

-- The watched places in their order: those of the entries before the first zero. [P28]
abbrev pub watched_in : List ℕ → List Watched
watched_in [] = []
watched_in (code ∷ codes) = if code == 0 then [] else watched_at code ∷ watched_in codes

-- The watched places of a machine. [P28]
abbrev pub watches_of : Machine → List Watched
watches_of s = watched_in s.watches

-- Whether the machine watches the place. [P28]
abbrev pub is_watched : Machine → Watched → Bool
is_watched s watched = list_any (λ code. code == watch_code watched) s.watches

-- at most eight places, each determined by its code
pub record HaveCodes (places : List Watched) : Type 0 where
  pub at_most : length places ≤ watch_count
  pub read_back : All (λ watched. watched_at (watch_code watched) ≡ watched) places

-- Well-formed watch entries: the codes of distinct places that a machine with this many central words has, then zeros. [P28]
pub record AreWatches (size : ℕ) (entries : List ℕ) : Type 0 where
  pub closed_up : watch_entries (watched_in entries) ≡ entries
  pub present : All (λ watched. Has size (watched_place watched)) (watched_in entries)
  pub distinct : AllPairs (λ one other. watch_code one ≢ watch_code other) (watched_in entries)
