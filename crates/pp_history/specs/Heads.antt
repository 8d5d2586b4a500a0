-- How blocks hold the heads of a log.
use Rattle.std.specs.Prelude.{◌≡◌, ℕ, ◌*◌, ◌≤◌, List, ◌++◌, length, take, drop, reverse, Option}
use Rattle.std.specs.List.{AllByRecursion, flat_map}
use Rattle.pp_history.specs.declared.heads.Heads.{Heads}

-- the heads of the kept actions, the newest first, those of the undone actions, the next to perform again first, and how
-- many there may be
pub record Halves (H : Type 0) : Type 0 where
  pub kept : List (Option H)
  pub ahead : List (Option H)
  pub capacity : ℕ

module _ {H : Type 0} where
  -- all slots of the blocks that are not in use, laid end to end
  abbrev pub others_in : Heads H → List (Option H)
  others_in heads = flat_map (λ block. block.items) heads.others.items

  -- the slots behind a place of the block in use, the nearest first
  abbrev pub behind : Heads H → ℕ → List (Option H)
  behind heads n = drop n heads.block.items ++ others_in heads

  -- the slots before it, the nearest first
  abbrev pub before : Heads H → ℕ → List (Option H)
  before heads n = reverse (others_in heads ++ take n heads.block.items)

  -- the heads of so many kept actions are behind a place, and those of so many undone ones before it
  abbrev pub halves : Heads H → ℕ → ℕ → ℕ → Halves H
  halves heads n kept ahead =
      record { kept = take kept (behind heads n); ahead = take ahead (before heads n); capacity = heads.capacity }

  -- the same heads are behind and before the one place as behind and before the other
  pub record IsSame (old : Heads H) (n : ℕ) (new : Heads H) (m : ℕ) : Type 0 where
    pub capacity : new.capacity ≡ old.capacity
    pub halves : (kept ahead : ℕ) → kept ≤ old.capacity → ahead ≤ old.capacity → halves new m kept ahead ≡ halves old n kept ahead

-- holds of the heads of every log: the other blocks alone have enough slots
pub record IsHeads {H : Type 0} (heads : Heads H) : Type 0 where
  pub block : length heads.block.items ≡ 256
  pub others : AllByRecursion (λ block. length block.items ≡ 256) heads.others.items
  pub all : length heads.others.items ≡ heads.others.capacity
  pub some_room : 1 ≤ heads.capacity
  pub bounded : heads.capacity ≤ 10000
  pub enough : heads.capacity ≤ 256 * length heads.others.items
  pub few : length heads.others.items ≤ 40
