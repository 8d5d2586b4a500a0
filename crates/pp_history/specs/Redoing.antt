-- Actions that are performed again, one for each head of a stretch.
use Rattle.std.specs.Prelude.{◌≡◌, ℕ, ◌+◌, List, [], ◌∷◌, Option, Some, IsSomeAnd, drop, slice_get}
use Rattle.circular_buffer.specs.Buffer.{Buffer, buffer}
use Rattle.pp_history.specs.{Joining.IsActed, Joining.first_of, Joining.left_by, declared.reversible.Reversible.Ghosts}
use Rattle.pp_history.specs.declared.tails.Tails.{Tails}

module _ {M A R P H : Type 0} (rules : Ghosts M A R P H) where
  -- the next action of each of these heads was performed again, the last head first, and each one is kept in the new head or a tail
  abbrev pub AreRedone : List (Option H) → List (Option H) → M → M → Tails A R → Tails A R → Buffer A → Buffer A → Type 0
  AreRedone [] heads' old new tails tails' undone undone' = (heads' ≡ []) × (new ≡ old) × (tails' ≡ tails) × (undone' ≡ undone)
  AreRedone (head ∷ earlier) [] old new tails tails' undone undone' = ⊥
  AreRedone (head ∷ earlier) (head' ∷ earlier') old new tails tails' undone undone' =
      (machine : M) × (between : Tails A R) × (left : Buffer A) × AreRedone earlier earlier' old machine tails between undone left
      × IsSomeAnd (first_of (λ head. (rules.unpacked head).0) Some head left.items) (λ action. IsActed rules machine new action head' between tails')
      × (undone' ≡ buffer (left_by head left.items) left.capacity)

  -- when the actions of some heads, from the last one on, were performed again, the machine admits that of the head before them
  abbrev pub AreReady : List (Option H) → M → Tails A R → Buffer A → Type 0
  AreReady heads old tails undone = (n : ℕ) (head : Option H) → slice_get heads n ≡ Some head →
      (heads' : List (Option H)) (machine : M) (tails' : Tails A R) (undone' : Buffer A) →
      AreRedone (drop (n + 1) heads) heads' old machine tails tails' undone undone' →
      IsSomeAnd (first_of (λ head. (rules.unpacked head).0) Some head undone'.items) (λ action. rules.admitted machine action)
