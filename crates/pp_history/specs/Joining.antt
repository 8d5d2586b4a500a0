-- How heads and rings hold the actions of a session. There is a head for each action. A head may hold what belongs to its
-- action; what belongs to the others is in a ring, in the same order.
use Rattle.std.specs.Prelude.{◌≡◌, ℕ, List, [], ◌∷◌, Option, Some, None, length, drop}
use Rattle.circular_buffer.specs.Buffer.{Buffer}
use Rattle.pp_history.specs.{Heads.Halves, Contents.Contents, Contents.contents, Tails.IsKept, Tails.in_tail, Tails.pushed}
use Rattle.pp_history.specs.{declared.reversible.Reversible.Ghosts, declared.tails.Tails.Tails, declared.tails.Tail.Tail}

-- an item in front of others; the list ends where an item is missing
abbrev pub with_first : {X : Type 0} → Option X → List X → List X
with_first None later = []
with_first (Some first) later = first ∷ later

-- the items of the second ring that are left for the later heads
abbrev pub left_by : {H B : Type 0} → Option H → List B → List B
left_by (Some head) behind = behind
left_by None behind = drop 1 behind

module _ {H B X : Type 0} (in_head : H → X) (in_other : B → Option X) where
  -- what belongs to the first head: what it holds, or else the first item of the second ring
  abbrev pub first_of : Option H → List B → Option X
  first_of (Some head) others = Some (in_head head)
  first_of None [] = None
  first_of None (other ∷ others) = in_other other

  -- what belongs to each head
  abbrev pub joined : List (Option H) → List B → List X
  joined [] others = []
  joined (head ∷ heads) others = with_first (first_of head others) (joined heads (left_by head others))

-- nothing that belongs to a head is missing
pub record IsSide {H B X : Type 0} (in_head : H → X) (in_other : B → Option X) (heads : List (Option H)) (ring : Buffer B) (capacity : ℕ) : Type 0 where
  pub room : ring.capacity ≡ capacity
  pub all : length (joined in_head in_other heads ring.items) ≡ length heads

module _ {A R H : Type 0} (unpacked : H → A × R) where
  -- the kept actions with their undo records, the newest first
  abbrev pub kept_in : List (Option H) → List (Tail A R) → List (A × R)
  kept_in = joined unpacked in_tail

  -- the undone actions, the next to perform again first
  abbrev pub ahead_in : List (Option H) → List A → List A
  ahead_in = joined (λ head. (unpacked head).0) Some

  -- the action is the next to perform again: its head holds it, or else it is in front of the undone ones
  abbrev pub IsNext : Option H → A → Buffer A → Buffer A → Type 0
  IsNext (Some head) action old new = new ≡ old
  IsNext None action old new = new ≡ pushed action old

  -- the machine with what the heads and the rings hold
  abbrev pub contents_with : {M : Type 0} → M → Halves H → Buffer (Tail A R) → Buffer A → Contents M A R
  contents_with machine halves tails undone =
      contents machine (kept_in halves.kept tails.items) (ahead_in halves.ahead undone.items) halves.capacity

  -- no action is missing in the heads and the rings
  pub record IsJoined (halves : Halves H) (tails : Buffer (Tail A R)) (undone : Buffer A) : Type 0 where
    pub kept : IsSide unpacked in_tail halves.kept tails halves.capacity
    pub ahead : IsSide (λ (head : H). (unpacked head).0) Some halves.ahead undone halves.capacity

-- the action was performed, and is kept with a record that has its old values and leads back
pub record IsActed {M A R P H : Type 0} (rules : Ghosts M A R P H) (old new : M) (action : A) (head : Option H) (tails tails' : Tails A R) : Type 0 where
  pub next : new ≡ rules.after_act old action
  pub back : R
  pub fits : rules.fits back new
  pub leads_back : rules.after_undo back new ≡ old
  pub old_values : rules.record_pairs back ≡ rules.old_values old action
  pub kept : IsKept rules.unpacked head action back tails tails'
