-- An action that is performed again and again.
use Rattle.std.specs.Prelude.{◌≡◌, ℕ, zero, suc, ◌+◌, ◌-◌, ◌<◌, Option, replicate, List, [], ◌∷◌, length, take, drop, false}
use Rattle.pp_history.specs.{declared.repeatable.Stretch.Stretch, declared.tails.Tails.Tails, Joining.IsActed}
use Rattle.pp_history.specs.{declared.marks.Marks.Marks, declared.reversible.Reversible.Ghosts, Marks.IsUnmarked}
use Rattle.pp_history.specs.{SessionValue.SessionValue, SessionValue.after_act, SessionValue.replay}

-- after the action was performed this many times
unfoldable pub after_acts : {M A : Type 0} → ℕ → A → SessionValue M A → SessionValue M A
after_acts zero action v = v
after_acts (suc count) action v = after_act (after_acts count action v) action

module _ {M A R P S : Type 0} (rules : Ghosts M A R P S) where
  -- the machine after the action was performed this many times
  abbrev pub machine_after : ℕ → A → M → M
  machine_after count action machine = replay rules machine (replicate count action)

  -- an action led from one machine to the other, and its undo record has none of the places that the marks cover
  abbrev pub IsUnmarkedAct : (P → Option (ℕ × ℕ)) → Marks → M → M → Type 0
  IsUnmarkedAct marks_of marks old new =
      (back : R) × rules.fits back new × (rules.after_undo back new ≡ old) × IsUnmarked marks_of rules.old_value marks back

  -- the first so many times, no undo record had one of the places that the marks cover
  abbrev pub AreUnmarked : (P → Option (ℕ × ℕ)) → Marks → A → ℕ → M → Type 0
  AreUnmarked marks_of marks action count machine =
      (k : ℕ) → k < count → IsUnmarkedAct marks_of marks (machine_after k action machine) (machine_after (k + 1) action machine)

  -- the action was performed once for each of these heads, the newest first, and each time it is kept in the head or a tail
  abbrev pub AreActed : A → List (Option S) → M → M → Tails A R → Tails A R → Type 0
  AreActed action [] old new tails tails' = (new ≡ old) × (tails' ≡ tails)
  AreActed action (head ∷ earlier) old new tails tails' =
      (machine : M) × (between : Tails A R) × AreActed action earlier old machine tails between
      × IsActed rules machine new action head between tails'

  -- The action was performed once for each head from the last one on, and the first heads are left as they were. At most
  -- the last undo record may have one of the places that the marks cover, and then it may be that heads are left.
  pub record IsStretch (marks_of : P → Option (ℕ × ℕ)) (marks : Marks) (action : A) (old new : M) (heads heads' : List (Option S))
      (tails tails' : Tails A R) (stretch : Stretch) : Type 0 where
    pub some : stretch.left < length heads
    pub same_length : length heads' ≡ length heads
    pub left : take stretch.left heads' ≡ take stretch.left heads
    pub acted : AreActed action (drop stretch.left heads') old new tails tails'
    pub before : AreUnmarked marks_of marks action (length heads - stretch.left - 1) old
    pub all : stretch.may_be_marked ≡ false → (stretch.left ≡ 0) × AreUnmarked marks_of marks action (length heads) old
