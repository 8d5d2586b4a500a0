-- The actions that no head holds.
use Rattle.std.specs.Prelude.{◌≡◌, ◌∷◌, Option, Some, None, slice_set, take}
use Rattle.circular_buffer.specs.Buffer.{Buffer, buffer}
use Rattle.pp_history.specs.{declared.tails.Tail.Tail, declared.tails.Tails.Tails}

-- the action and the undo record of a tail
abbrev pub both : {A R : Type 0} → Option A → Option R → Option (A × R)
both (Some action) (Some back) = Some (action, back)
both _ _ = None

-- the action and the undo record, if neither was moved out
abbrev pub in_tail : {A R : Type 0} → Tail A R → Option (A × R)
in_tail tail = both tail.action tail.back

-- a ring with one more item in front
abbrev pub pushed : {X : Type 0} → X → Buffer X → Buffer X
pushed item old = buffer (take old.capacity (item ∷ old.items)) old.capacity

-- the head holds the action with its undo record, or else they are the newest tail
abbrev pub IsKept : {A R H : Type 0} → (H → A × R) → Option H → A → R → Tails A R → Tails A R → Type 0
IsKept unpacked (Some head) action back old new = (unpacked head ≡ (action, back)) × (new ≡ old)
IsKept unpacked None action back old new = new.ring ≡ pushed (record { action = Some action; back = Some back }) old.ring

-- the tails with another one in place of the newest
abbrev pub with_newest : {A R : Type 0} → Tails A R → Tail A R → Tails A R
with_newest tails newest = record tails { ring = buffer (slice_set tails.ring.items 0 newest) tails.ring.capacity }
