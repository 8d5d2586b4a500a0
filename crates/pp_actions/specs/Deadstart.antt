-- What a dead start writes.
use Rattle.std.specs.Prelude.{ℕ, ◌+◌, List, [], ◌∷◌, ◌++◌, Option, Some, None, replicate}
use Rattle.std.specs.List.{flat_map, range_with_len}
use Rattle.pp_machine.specs.Writes.{Writes}
use Rattle.pp_machine.specs.declared.place.Place.{Place}
use Rattle.pp_machine.specs.declared.place.Place.TheVariants.{Cell, ChannelMode, Phase, RegA, RegP, RegQ, Slot}
use Rattle.pp_actions.specs.WriteLists.{cell_writes, writes_from}

-- Processor 00 has the twelve words of the panel, of twelve bits each, in its cells 0001 to 0014, between two zeros, and begins at
-- the panel, with P = 0001. [M19, P23]
abbrev pub loading : List ℕ → Writes Place
loading panel =
    cell_writes 0 0 (0 ∷ []) ++ cell_writes 0 1 panel ++ cell_writes 0 0o15 (0 ∷ []) ++
    (RegA 0, 0) ∷ (RegP 0, 1) ∷ (RegQ 0, 0) ∷ (Phase 0, 0) ∷ []

-- Processor n is in the input of a block, 71nn: 10000 words from channel n into its cells from 0000 on. [P23]
abbrev pub waiting : ℕ → Writes Place
waiting n = (Cell n 0, 0) ∷ (RegA n, 0o10000) ∷ (RegP n, 0) ∷ (RegQ n, 0) ∷ (Phase n, 0o7100 + n) ∷ []

-- Channels 00 to 13 in their order: 01 to 11 are active and empty, 1, and the others inactive, 0. [P23]
abbrev pub states : List ℕ
states = 0 ∷ 1 ∷ 1 ∷ 1 ∷ 1 ∷ 1 ∷ 1 ∷ 1 ∷ 1 ∷ 1 ∷ 0 ∷ 0 ∷ []

-- What a dead start with this panel writes: processor 00, processors 01 to 11, the channels and the slot. [P23]
unfoldable pub deadstart_write_list : List ℕ → Writes Place
deadstart_write_list panel =
    loading panel ++ flat_map waiting (range_with_len 1 0o11) ++ writes_from ChannelMode 0 states ++ (Slot, 0) ∷ []

-- What a dead start writes: without a panel nothing. [P23]
abbrev pub deadstart_writes : Option (List ℕ) → Writes Place
deadstart_writes None = []
deadstart_writes (Some panel) = deadstart_write_list panel

-- the same places, for any panel
abbrev pub deadstart_places : Writes Place
deadstart_places = deadstart_write_list (replicate 0o14 0)

-- 14 cells and 4 registers of processor 00, 5 places of each other one, 12 states and the slot (all decimal)
abbrev pub deadstart_place_count : ℕ
deadstart_place_count = 76
