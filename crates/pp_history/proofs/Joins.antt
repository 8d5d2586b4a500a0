-- Rings hold one list of actions with their undo records, and continue to hold it.
use Rattle.pp_history.proofs.Names.{◌≡◌, ℕ, zero, suc, ◌+◌, ◌<◌, ◌≤◌, List, [], ◌∷◌, ◌++◌, length, take, drop, Option, Some, None}
use Rattle.pp_history.proofs.Names.{IfSome, IsNone, option_map, slice_get, refl, arith, drop-cons, common_steps, take-suc}
use Rattle.pp_history.proofs.Names.{get_or_from_slice_get, slice_get_within, Buffer, buffer, IsSide, first_of, left_by, joined}
use Rattle.pp_history.proofs.Names.{kept_in, IsKept, in_tail, pushed, Tails}

pub drop-at : {X : Type 0} (n : ℕ) (xs : List X) (x : X) → slice_get xs n ≡ Some x → drop n xs ≡ x ∷ drop (suc n) xs
drop-at n xs x found = rw (drop-cons xs n x (slice_get_within xs n x found), get_or_from_slice_get xs n x x found)

-- what is handed out of an option
pub handed_out : {X Y : Type 0} (f : X → Y) (result : Option X) (y : Y) → option_map f result ≡ Some y →
    IfSome result (λ x. y ≡ f x) × (IsNone result → ⊥)
handed_out f result y is = grind arith

pub take-one : {X : Type 0} (n : ℕ) (xs : List X) (x : X) → slice_get xs n ≡ Some x → take (suc n) xs ≡ take n xs ++ x ∷ []
take-one n xs x found = rw (take-suc xs n x (slice_get_within xs n x found), get_or_from_slice_get xs n x x found) refl

module _ {H B X : Type 0} (in_head : H → X) (in_other : B → Option X) where
  -- what belongs to the first n heads, for which n items of the ring are enough
  joined_take : (n m : ℕ) (heads : List (Option H)) (others : List B) → n ≤ m →
      joined in_head in_other (take n heads) (take m others) ≡ take n (joined in_head in_other heads others)
  joined_take (suc n) (suc m) (head ∷ heads) others enough =
      grind (arith, joined_take n (suc m) heads others, joined_take n m heads (drop 1 others))
  joined_take n m heads others enough = grind arith

  -- what belongs to the n-th head, and to the later ones
  pub record ItemAt (n : ℕ) (heads : List (Option H)) (others : List B) (head : Option H) : Type 0 where
    pub item : X
    pub is : first_of in_head in_other head others ≡ Some item
    pub split : joined in_head in_other (drop n heads) others
        ≡ item ∷ joined in_head in_other (drop (n + 1) heads) (left_by head others)

  pub item-at : (n : ℕ) (heads : List (Option H)) (others : List B) (head : Option H) →
      n + length (joined in_head in_other (drop n heads) others) ≡ length heads → slice_get heads n ≡ Some head →
      ItemAt n heads others head
  item-at n heads others head all found = grind (arith, drop-at n heads head found, slice_get_within heads n head found)

  -- the item belongs to the head, or else it was put in front of the ring
  abbrev pub IsPut : Option H → X → Buffer B → Buffer B → Type 0
  IsPut (Some head) item old new = (in_head head ≡ item) × (new ≡ old)
  IsPut None item old new = (other : B) × ((in_other other ≡ Some item) × (new ≡ pushed other old))

  module _ (head : Option H) (heads : List (Option H)) (old : Buffer B) (capacity : ℕ) where
    -- what belongs to the first head of a side
    pub side_first : IsSide in_head in_other (head ∷ heads) old capacity → ItemAt 0 (head ∷ heads) old.items head
    side_first side = item-at 0 (head ∷ heads) old.items head (omega (arith, side.all)) refl

    -- a side without its first head
    pub side_less : (new : Buffer B) (side : IsSide in_head in_other (head ∷ heads) old capacity) →
        new ≡ buffer (left_by head old.items) old.capacity → (joined in_head in_other (head ∷ heads) old.items
        ≡ (side_first side).item ∷ joined in_head in_other heads new.items) × IsSide in_head in_other heads new capacity
    side_less new side behind = rw behind (grind (arith, (side_first side).split))

  -- a side with one more head in front
  pub side_more : (head : Option H) (heads : List (Option H)) (old : Buffer B) (capacity : ℕ) (new : Buffer B) (item : X) →
      IsPut head item old new → IsSide in_head in_other heads old capacity → length heads < capacity →
      (joined in_head in_other (head ∷ heads) new.items ≡ item ∷ joined in_head in_other heads old.items)
      × IsSide in_head in_other (head ∷ heads) new capacity
  side_more head heads old zero new item is side few = absurd (omega arith)
  side_more head heads old (suc n) new item is side few =
      grind (arith, common_steps, joined_take (length heads) n heads old.items)

module _ {A R H : Type 0} (unpacked : H → A × R) where
  -- a kept action more. If there are too many then, the last one is discarded
  pub kept_more : (head : Option H) (action : A) (back : R) (old new : Tails A R) (heads : List (Option H)) (capacity : ℕ) →
      IsKept unpacked head action back old new → IsSide unpacked in_tail heads old.ring capacity → 1 ≤ capacity
      → (kept_in unpacked (take capacity (head ∷ heads)) new.ring.items ≡ take capacity ((action, back) ∷
      kept_in unpacked heads old.ring.items)) × IsSide unpacked in_tail (take capacity (head ∷ heads)) new.ring capacity
  kept_more head action back old new heads zero kept side some = absurd (omega (arith, some))
  kept_more head action back old new heads (suc n) kept side some =
      let more = side_more unpacked in_tail head (take n heads) old.ring (suc n) new.ring (action, back) in
      grind (arith, common_steps, more, joined_take unpacked in_tail n (n + length old.ring.items) heads old.ring.items)
