-- Turns of a session, one after another, that changed no watched number so far.
use Rattle.std.proofs.Common.{◌≡◌, ◌∙◌, ◌+◌, ◌-◌, ◌*◌, ℕ, zero, suc, Bool, false, List, ◌++◌, All, add-one, ap, append-nil}
use Rattle.std.proofs.Common.{append_assoc, arith, is_some, length, refl, sym, take}
use Rattle.std.specs.Prelude.{Option, Some, None}
use Rattle.pp_actions.specs.declared.action.Action.{Action}
use Rattle.pp_actions.specs.Watches.{watches_of}
use Rattle.pp_actions.specs.declared.action.Action.TheVariants.{Turn}
use Rattle.pp_history.specs.Contents.{Contents}
use Rattle.pp_history.specs.SessionValue.{Moves}
use Rattle.pp_machine.specs.NumberLaws.{setup-over}
use Rattle.pp_machine.specs.Prelude.{Has, Machine}
use Rattle.pp_machine.specs.declared.place.Place.{Place}
use Rattle.pp_rig.proofs.Overwritten.{next_by_writes}
use Rattle.pp_rig.proofs.Runs.{after_turns_add, none_watched, run_in_parts, stopped_once, turns_before}
use Rattle.pp_rig.proofs.Shortest.{turned-first}
use Rattle.pp_rig.proofs.Turns.{turn-watches}
use Rattle.pp_rig.specs.Columns.{EndsAsStep, row, rows_of}
use Rattle.pp_rig.specs.Inner.ActionRecords.{writes}
use Rattle.pp_rig.specs.Rules.{rules}
use Rattle.pp_rig.specs.Stopping.{after_turns, hit_of, stopped, turned}
use Rattle.pp_rig.specs.Turn.{turn}
use Rattle.pp_rig.specs.declared.rig.RigRecord.{RigRecord}
use Rattle.pp_rig.specs.declared.stopping.Hit.{Hit}
use Rattle.pp_rig.specs.declared.stopping.Stopped.{Stopped}

abbrev pub State : Type 0
State = Contents Machine Action RigRecord

-- so many turns were performed, and none changed a watched number
pub record Ran (turns : ℕ) (old new : State) : Type 0 where
  pub at : Moves rules old new (after_turns turns)
  pub machine : new.machine ≡ turned turns old.machine
  pub stopped : stopped turns old.machine ≡ record { turns = turns; hit = None }

-- before the first turn
pub ran_none : (s : State) → Ran 0 s s
unfolding after_turns stopped
ran_none s = record { at = λ v at. at; machine = refl; stopped = refl }

no_hit : (hit : Option Hit) → is_some hit ≡ false → hit ≡ None
no_hit None none = refl
no_hit (Some hit) none = absurd (cc)

-- a run that nothing stopped so far, with one more turn
stopped_more : (turns : ℕ) (s : Machine) → stopped turns s ≡ record { turns = turns; hit = None } →
    stopped (turns + 1) s ≡ record { turns = turns + 1; hit = hit_of (turned turns s) }
unfolding turns_before
stopped_more turns s all =
    let left : turns + 1 - turns ≡ 1 = omega arith in
    let parts = rw (all, left, stopped_once) at (run_in_parts turns (turns + 1) s (omega arith)) in parts

-- one more turn, whether or not it changed a watched number
pub moved_more : (turns : ℕ) (old middle new : State) → Ran turns old middle → Moves rules middle new (after_turns 1) →
    Moves rules old new (after_turns (turns + 1))
moved_more turns old middle new ran at = λ v is. rw (← after_turns_add) (at _ (ran.at v is))

pub machine_more : (turns : ℕ) (old middle new : State) → Ran turns old middle → new.machine ≡ turn middle.machine →
    new.machine ≡ turned (turns + 1) old.machine
machine_more turns old middle new ran machine = rw add-one (machine ∙ ap turn ran.machine)

-- one more turn that changed none
pub ran_more : (turns : ℕ) (old middle new : State) (hit : Bool) → Ran turns old middle →
    Moves rules middle new (after_turns 1) → new.machine ≡ turn middle.machine → hit ≡ is_some (hit_of middle.machine) →
    hit ≡ false → Ran (turns + 1) old new
ran_more turns old middle new hit ran at machine is none =
    let no = no_hit (hit_of (turned turns old.machine)) (ap (λ s. is_some (hit_of s)) (sym ran.machine) ∙ sym is ∙ none) in
    record {
      at = moved_more turns old middle new ran at;
      machine = machine_more turns old middle new ran machine;
      stopped = rw no at (stopped_more turns old.machine ran.stopped);
    }

-- the end, by a turn that changed one
pub ends_with_hit : (turns : ℕ) (old middle : State) (hit : Bool) → Ran turns old middle → hit ≡ is_some (hit_of middle.machine) →
    EndsAsStep (turns + 1) old.machine hit
ends_with_hit turns old middle hit ran is =
    let more = stopped_more turns old.machine ran.stopped in
    (ap (λ done. done.turns) more, ap (λ done. is_some done.hit) more ∙ ap (λ s. is_some (hit_of s)) (sym ran.machine) ∙ sym is)

-- more turns, of which at most the last changed one
stopped_add : (turns more : ℕ) (s : Machine) → stopped turns s ≡ record { turns = turns; hit = None } →
    stopped (turns + more) s ≡ turns_before turns (stopped more (turned turns s))
stopped_add turns more s all =
    let left : turns + more - turns ≡ more = omega arith in rw (all, left) at (run_in_parts turns (turns + more) s (omega arith))

pub ends_more : (turns more : ℕ) (old middle : State) (hit : Bool) → Ran turns old middle → EndsAsStep more middle.machine hit →
    EndsAsStep (turns + more) old.machine hit
unfolding turns_before
ends_more turns more old middle hit ran ends =
    let last = rw ran.machine at ends in
    rw (stopped_add turns more old.machine ran.stopped) (ap (λ (n : ℕ). turns + n) last.0, last.1)

pub moved_add : (turns more : ℕ) (old middle new : State) → Ran turns old middle → Moves rules middle new (after_turns more) →
    Moves rules old new (after_turns (turns + more))
moved_add turns more old middle new ran at = λ v is. rw (← after_turns_add turns more v) (at _ (ran.at v is))

turned_add : (turns more : ℕ) (s : Machine) → turned more (turned turns s) ≡ turned (turns + more) s
turned_add turns zero s = let none : turns + zero ≡ turns = omega arith in rw none refl
turned_add turns (suc more) s =
    let next : turns + suc more ≡ suc (turns + more) = omega arith in rw next (ap turn (turned_add turns more s))

not_stopped : (done : Stopped) (turns : ℕ) → done.turns ≡ turns → is_some done.hit ≡ false →
    done ≡ record { turns = turns; hit = None }
not_stopped done turns all none = grind (arith, all, no_hit done.hit none)

pub ran_add : (turns more : ℕ) (old middle new : State) (hit : Bool) → Ran turns old middle →
    Moves rules middle new (after_turns more) → new.machine ≡ turned more middle.machine → EndsAsStep more middle.machine hit →
    hit ≡ false → Ran (turns + more) old new
ran_add turns more old middle new hit ran at machine ends none =
    let last = ends_more turns more old middle hit ran ends in
    record {
      at = moved_add turns more old middle new ran at;
      machine = machine ∙ ap (turned more) ran.machine ∙ turned_add turns more old.machine;
      stopped = not_stopped (stopped (turns + more) old.machine) (turns + more) last.0 (last.1 ∙ none);
    }

-- a run stops at no turn if nothing is watched
stopped_unwatched : (turns : ℕ) (s : Machine) → length (watches_of s) ≡ 0 → stopped turns s ≡ record { turns = turns; hit = None }
unfolding stopped
stopped_unwatched zero s none = refl
stopped_unwatched (suc turns) s none =
    let same : watches_of (turn s) ≡ watches_of s = grind (arith, turn-watches s) in
    let later = stopped_unwatched turns (turn s) (ap length same ∙ none) in
    rw (none_watched s (turn s) (watches_of s) none, later) refl

pub ends_unwatched : (turns : ℕ) (s : Machine) → length (watches_of s) ≡ 0 → EndsAsStep turns s false
ends_unwatched turns s none =
    let all = stopped_unwatched turns s none in (ap (λ done. done.turns) all, ap (λ done. is_some done.hit) all)

-- the end, with no such turn
pub ends_without_hit : (turns : ℕ) (old new : State) → Ran turns old new → EndsAsStep turns old.machine false
ends_without_hit turns old new ran = (ap (λ done. done.turns) ran.stopped, ap (λ done. is_some done.hit) ran.stopped)

-- turns leave the setup
setup_kept : (turns : ℕ) (s : Machine) → (turned turns s).setup ≡ s.setup
setup_kept zero s = refl
setup_kept (suc turns) s =
    ap (λ s. s.setup) (next_by_writes (turned turns s) Turn) ∙ setup-over (turned turns s) (writes (turned turns s) Turn)
    ∙ setup_kept turns s

-- the machine has the same places
pub places_later : (places : List Place) (turns : ℕ) (old new : State) → new.machine ≡ turned turns old.machine →
    All (Has old.machine.setup.central_words) places → All (Has new.machine.setup.central_words) places
places_later places turns old new machine has =
    let same : new.machine.setup.central_words ≡ old.machine.setup.central_words = ap (λ s. s.setup.central_words) machine ∙ ap
    (λ setup. setup.central_words) (setup_kept turns old.machine) in
    rw same has

-- one more row
pub rows_more : (turns : ℕ) (s : Machine) (places : List Place) →
    rows_of (suc turns) s places ≡ rows_of turns s places ++ row (turned (suc turns) s) places
unfolding rows_of
rows_more zero s places = append-nil (row (turn s) places)
rows_more (suc turns) s places =
    ap (λ rows. row (turn s) places ++ rows) (rows_more turns (turn s) places)
    ∙ sym (append_assoc (row (turn s) places) (rows_of turns (turn s) places) (row (turned (suc turns) (turn s)) places))
    ∙ ap (λ m. (row (turn s) places ++ rows_of turns (turn s) places) ++ row m places) (turned-first (suc turns) s)

next_count : (turns count used : ℕ) → used ≡ turns * count → (turns + 1) * count ≡ used + count
next_count turns count used is = grind arith

-- the rows that are there after one more turn
pub rows_after : (turns used : ℕ) (s m : Machine) (places : List Place) (before after : List ℕ) → used ≡ turns * length places →
    take used before ≡ rows_of turns s places → take (used + length places) after ≡ take used before ++ row m places →
    m ≡ turned (turns + 1) s → take ((turns + 1) * length places) after ≡ rows_of (turns + 1) s places
rows_after turns used s m places before after count rows written machine =
    rw (next_count turns (length places) used count) (written ∙ ap (λ rows. rows ++ row m places) rows
    ∙ ap (λ m. rows_of turns s places ++ row m places) machine ∙ rw add-one (sym (rows_more turns s places)))
