-- Recordings of actions, one after another.
use Rattle.std.proofs.Common.{◌≡◌, ◌∙◌, ◌+◌, ◌<◌, ◌≤◌, ℕ, zero, suc, List, [], ◌∷◌, ◌++◌, add-one, ap, append-nil, append_assoc}
use Rattle.std.proofs.Common.{arith, drop, drop-cons, get_or, length, refl, replicate, sym, take}
use Rattle.std.proofs.lemmas.List.{length-append, length-take-le, take_more}
use Rattle.pp_actions.specs.declared.action.Action.{Action}
use Rattle.pp_actions.specs.declared.action.Action.TheVariants.{Turn}
use Rattle.pp_history.proofs.Steps.{after_steps-more}
use Rattle.pp_history.specs.SessionLaws.{machine_at}
use Rattle.pp_history.specs.SessionValue.{AreNewest, IsAt, Moves, SessionValue, after_forward, performed, replay}
use Rattle.pp_machine.specs.Machine.{Machine}
use Rattle.pp_history.specs.Recording.{moments_after, olds_after}
use Rattle.pp_machine.specs.Numbering.{place_number}
use Rattle.pp_machine.specs.Olds.{numbered}
use Rattle.pp_machine.specs.Prelude.{Writes}
use Rattle.pp_machine.specs.declared.place.Place.{Place}
use Rattle.pp_rig.proofs.Shortest.{turned-first}
use Rattle.pp_rig.proofs.TurnRuns.{State}
use Rattle.pp_rig.specs.Action.{next}
use Rattle.pp_rig.specs.Inner.ActionRecords.{old_values_of}
use Rattle.pp_rig.specs.Recording.{moment_of, moments_of, olds_of}
use Rattle.pp_rig.specs.Rules.{rules}
use Rattle.pp_rig.specs.declared.recording.Moment.{Moment}
use Rattle.pp_rig.specs.Stopping.{turned}
use Rattle.pp_rig.specs.Turn.{turn}
use Rattle.pp_machine.specs.declared.olds.Old.{Old}

length-numbered : (pairs : Writes Place) → length (numbered pairs) ≡ length pairs
length-numbered [] = refl
length-numbered (pair ∷ pairs) = ap suc (length-numbered pairs)

-- places that were put behind others are counted by how far they reach
pub put_count : (olds : List Old) (front : List Old) (used end : ℕ) (pairs : Writes Place) → end ≤ length olds →
    take end olds ≡ front ++ numbered pairs → length front ≡ used → end ≡ used + length pairs
put_count olds front used end pairs within is count =
    omega (arith, length-take-le end olds within, ap length is, length-append front (numbered pairs), length-numbered pairs, count)

-- the old values of the newest action
pub newest_pairs : (start : Machine) (standing earlier : List Action) (action : Action) (pairs : Writes Place) →
    AreNewest rules start standing pairs → standing ≡ action ∷ earlier → pairs ≡ old_values_of (replay rules start earlier) action
newest_pairs start standing earlier action pairs newest same = rw same at newest

-- one more action
pub moments_last : (s : Machine) (actions : List Action) (last : Action) →
    moments_of s (actions ++ last ∷ []) ≡ moments_of s actions ++ moment_of (performed rules s actions) last ∷ []
unfolding moments_of
moments_last s [] last = refl
moments_last s (action ∷ later) last = ap (λ moments. moment_of s action ∷ moments) (moments_last (next s action) later last)

pub olds_last : (s : Machine) (actions : List Action) (last : Action) →
    olds_of s (actions ++ last ∷ []) ≡ olds_of s actions ++ numbered (old_values_of (performed rules s actions) last)
unfolding olds_of
olds_last s [] last = append-nil (numbered (old_values_of s last))
olds_last s (action ∷ later) last =
    ap (λ olds. numbered (old_values_of s action) ++ olds) (olds_last (next s action) later last)
    ∙ sym (append_assoc (numbered (old_values_of s action)) (olds_of (next s action) later)
    (numbered (old_values_of (performed rules (next s action) later) last)))

-- one more of the actions ahead
performed_last : (s : Machine) (actions : List Action) (last : Action) →
    performed rules s (actions ++ last ∷ []) ≡ next (performed rules s actions) last
performed_last s [] last = refl
performed_last s (action ∷ later) last = performed_last (next s action) later last

-- the action behind the first `count`
module _ (ahead : List Action) (count : ℕ) (within : count < length ahead) where
  pub ahead_following : drop count ahead ≡ get_or ahead count Turn ∷ drop (count + 1) ahead
  ahead_following = rw (add-one, drop-cons ahead count Turn within) refl

  one_more : take (count + 1) ahead ≡ take count ahead ++ get_or ahead count Turn ∷ []
  one_more = take_more ahead count Turn within

  module _ (s : Machine) where
    pub performed_following : performed rules s (take (count + 1) ahead)
        ≡ next (performed rules s (take count ahead)) (get_or ahead count Turn)
    performed_following = rw (one_more, performed_last) refl

    pub moments_following : moments_of s (take (count + 1) ahead)
        ≡ moments_of s (take count ahead) ++ moment_of (performed rules s (take count ahead)) (get_or ahead count Turn) ∷ []
    moments_following = rw (one_more, moments_last) refl

    pub olds_following : olds_of s (take (count + 1) ahead)
        ≡ olds_of s (take count ahead) ++ numbered (old_values_of (performed rules s (take count ahead)) (get_or ahead count Turn))
    olds_following = rw (one_more, olds_last) refl

-- no action was performed again
pub forward_none : (s : State) → Moves rules s s (λ v. after_forward v 0)
forward_none s = λ v at. let none : after_forward v 0 ≡ v = grind arith in rw none at

-- the first action ahead was performed again
pub forward_standing : (old : State) (v : SessionValue Machine Action) (action : Action) (later : List Action) → IsAt rules old v →
    old.ahead ≡ action ∷ later → (after_forward v 1).standing ≡ action ∷ v.standing
forward_standing old v action later at same = rw (sym at.ahead ∙ same) refl

pub forward_machine : (old new : State) (v : SessionValue Machine Action) (action : Action) (later : List Action) →
    IsAt rules old v → IsAt rules new (after_forward v 1) → old.ahead ≡ action ∷ later → new.machine ≡ next old.machine action
forward_machine old new v action later at moved same =
    machine_at rules new (after_forward v 1) moved
    ∙ ap (λ standing. replay rules v.start standing) (forward_standing old v action later at same)
    ∙ ap (λ s. next s action) (sym (machine_at rules old v at))

-- one more action was performed again
pub forward_more : (count : ℕ) (old middle new : State) → Moves rules old middle (λ v. after_forward v count) →
    Moves rules middle new (λ v. after_forward v 1) → Moves rules old new (λ v. after_forward v (count + 1))
forward_more count old middle new before once = λ v at. rw (← (after_steps-more v count 1).1)
    (once (after_forward v count) (before v at))

-- what is ahead after some
pub still_ahead : (count : ℕ) (old new : State) (v : SessionValue Machine Action) → IsAt rules old v →
    Moves rules old new (λ v. after_forward v count) → new.ahead ≡ drop count old.ahead
still_ahead count old new v at moves = (moves v at).ahead ∙ ap (drop count) (sym at.ahead)

-- a turn at the end of turns
replicate_last : (n : ℕ) (action : Action) → replicate (suc n) action ≡ replicate n action ++ action ∷ []
replicate_last zero action = refl
replicate_last (suc n) action = ap (λ actions. action ∷ actions) (replicate_last n action)

performed_turns : (turns : ℕ) (s : Machine) → performed rules s (replicate turns Turn) ≡ turned turns s
performed_turns zero s = refl
performed_turns (suc turns) s = performed_turns turns (turn s) ∙ turned-first turns s

-- one more turn
pub moments_more : (turns : ℕ) (s : Machine) →
    moments_of s (replicate (turns + 1) Turn) ≡ moments_of s (replicate turns Turn) ++ moment_of (turned turns s) Turn ∷ []
moments_more turns s = rw (add-one, replicate_last, moments_last, performed_turns) refl

pub olds_more : (turns : ℕ) (s : Machine) →
    olds_of s (replicate (turns + 1) Turn) ≡ olds_of s (replicate turns Turn) ++ numbered (old_values_of (turned turns s) Turn)
olds_more turns s = rw (add-one, replicate_last, olds_last, performed_turns) refl

-- more turns behind others
pub moments_add : (turns more : ℕ) (s : Machine) → moments_of s (replicate (turns + more) Turn)
    ≡ moments_of s (replicate turns Turn) ++ moments_of (turned turns s) (replicate more Turn)
unfolding moments_of
moments_add zero more s = let none : zero + more ≡ more = omega arith in rw none refl
moments_add (suc turns) more s =
    let next : suc turns + more ≡ suc (turns + more) = omega arith in
    rw (next, moments_add turns more (turn s), turned-first turns s) refl

pub olds_add : (turns more : ℕ) (s : Machine) → olds_of s (replicate (turns + more) Turn)
    ≡ olds_of s (replicate turns Turn) ++ olds_of (turned turns s) (replicate more Turn)
unfolding olds_of
olds_add zero more s = let none : zero + more ≡ more = omega arith in rw none refl
olds_add (suc turns) more s =
    let next : suc turns + more ≡ suc (turns + more) = omega arith in
    rw next (ap (λ olds. numbered (old_values_of s Turn) ++ olds) (olds_add turns more (turn s) ∙ rw (turned-first turns s) refl)
    ∙ sym (append_assoc (numbered (old_values_of s Turn)) (olds_of (turn s) (replicate turns Turn))
    (olds_of (turned (suc turns) s) (replicate more Turn))))

-- turns that a session recorded as it performed them
abbrev pub moment_with : ℕ → ℕ → Moment
moment_with slot count = record { processor = slot; count = count }

abbrev pub old_with : Place × ℕ → Old
old_with pair = record { place = place_number pair.0; number = pair.1 }

pub moments_are : (turns : ℕ) (s : Machine) →
    moments_after rules (λ s. s.slot) moment_with turns Turn s ≡ moments_of s (replicate turns Turn)
unfolding moments_after moments_of
moments_are zero s = refl
moments_are (suc turns) s =
    ap (λ moments. moments ++ moment_of (turned turns s) Turn ∷ []) (moments_are turns s) ∙ sym
    (rw add-one at (moments_more turns s))

pub olds_are : (turns : ℕ) (s : Machine) → olds_after rules old_with turns Turn s ≡ olds_of s (replicate turns Turn)
unfolding olds_after olds_of
olds_are zero s = refl
olds_are (suc turns) s =
    ap (λ olds. olds ++ numbered (old_values_of (turned turns s) Turn)) (olds_are turns s) ∙ sym (rw add-one at (olds_more turns s))

-- one turn alone
pub moments_one : (s : Machine) → moments_of s (replicate 1 Turn) ≡ moment_of s Turn ∷ []
unfolding moments_of
moments_one s = refl

pub olds_one : (s : Machine) → olds_of s (replicate 1 Turn) ≡ numbered (old_values_of s Turn)
unfolding olds_of
olds_one s = append-nil (numbered (old_values_of s Turn))
