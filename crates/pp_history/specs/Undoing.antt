-- Actions that are undone, one for each head of a stretch.
use Rattle.std.specs.Prelude.{◌≡◌, List, [], ◌∷◌, Option, IsSomeAnd}
use Rattle.circular_buffer.specs.Buffer.{Buffer, buffer}
use Rattle.pp_history.specs.{Joining.IsNext, Joining.first_of, Joining.left_by, Tails.in_tail, declared.reversible.Reversible.Ghosts}
use Rattle.pp_history.specs.declared.tails.Tails.{Tails}

module _ {M A R P H : Type 0} (rules : Ghosts M A R P H) where
  -- the action of the head, or else of the newest tail, was undone and is the next to perform again; the tail is discarded
  abbrev pub IsUndone : Option H → M → M → Tails A R → Tails A R → Buffer A → Buffer A → Type 0
  IsUndone head old new tails tails' undone undone' =
      IsSomeAnd (first_of rules.unpacked in_tail head tails.ring.items)
      (λ newest. (new ≡ rules.after_undo newest.1 old) × IsNext rules.unpacked head newest.0 undone undone')
      × (tails'.ring ≡ buffer (left_by head tails.ring.items) tails.ring.capacity)

  -- the actions of these heads were undone, the first head first
  abbrev pub AreUndone : List (Option H) → M → M → Tails A R → Tails A R → Buffer A → Buffer A → Type 0
  AreUndone [] old new tails tails' undone undone' = (new ≡ old) × (tails' ≡ tails) × (undone' ≡ undone)
  AreUndone (head ∷ later) old new tails tails' undone undone' =
      (machine : M) × (between : Tails A R) × (left : Buffer A) × IsUndone head old machine tails between undone left
      × AreUndone later machine new between tails' left undone'

  -- the undo records of these heads fit the machine one after the other, the first head first
  abbrev pub AreFitting : List (Option H) → M → Tails A R → Type 0
  AreFitting [] machine tails = Unit {0}
  AreFitting (head ∷ later) machine tails =
      IsSomeAnd (first_of rules.unpacked in_tail head tails.ring.items) (λ newest. rules.fits newest.1 machine
      × ((tails' : Tails A R) → tails'.ring ≡ buffer (left_by head tails.ring.items) tails.ring.capacity →
      AreFitting later (rules.after_undo newest.1 machine) tails'))
