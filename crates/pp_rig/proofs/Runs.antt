-- Runs, one turn after another.
use Rattle.pp_rig.proofs.Names.{nat_tests, drop, get_or, length, map, ◌≡◌, ◌∙◌, ap, true, ◌∷◌, ℕ, zero, suc, ◌+◌, ◌-◌, ◌<◌, ◌≤◌}
use Rattle.pp_rig.proofs.Names.{refl, arith, List, Option, Some, None, [], Machine, number, lookup, Place, before, marks_of}
use Rattle.pp_rig.proofs.Names.{rules, turn, Hit, covers, Marks, machine_at, SessionValue, after_act, after_turns, first_change}
use Rattle.pp_rig.proofs.Names.{hit_of, stopped, turned, watches_of, watched_place, Action, Turn, Watched, Stopped}
use Rattle.std.proofs.{lemmas.List.Elements.recursion_from_All, lemmas.List.at_drop_more, Common.add-one, Common.unwrap_or}
use Rattle.std.specs.List.{AllByRecursion}
use Rattle.std.proofs.Math.Dec.{eqb-suc-zero}
use Rattle.std.specs.Prelude.{◌==◌, Bool, false, if◌then◌else◌, is_some, min}
use Rattle.pp_rig.specs.Stopping.{newest_changed}
use Rattle.pp_history.specs.{Marks.AreCovered, Repeating.AreUnmarked, Repeating.after_acts, SessionValue.replay}
use Rattle.pp_history.proofs.Repeats.{acts_replayed, machine_after_more}
use Rattle.pp_actions.specs.declared.watched.Watched.TheVariants.{Cell}
use Rattle.pp_machine.specs.NumberLaws.{number-over}
use Rattle.pp_rig.specs.{Inner.ActionRecords.FitsRecord, Inner.ActionRecords.record_pairs, declared.rig.RigRecord.RigRecord}
use Rattle.pp_rig.proofs.{Shortest.turned-first, Turns.turn-watches}

-- this many turns before the rest of a run
unfoldable pub turns_before : ℕ → Stopped → Stopped
turns_before turns rest = record { turns = turns + rest.turns; hit = rest.hit }

-- before any turn
pub before_start : (n : ℕ) (machine : Machine) → stopped n machine ≡ turns_before 0 (stopped (n - 0) machine)
unfolding turns_before
before_start n machine = let all : n - 0 ≡ n = omega arith in rw all (grind arith)

-- turns of which the last made a change, or else the turns after them
abbrev pub continued : ℕ → Option Hit → Stopped → Stopped
continued turns None rest = turns_before turns rest
continued turns (Some hit) rest = record { turns = turns; hit = Some hit }

-- one turn of those that are left
before_next : (n turns : ℕ) (machine : Machine) → turns < n →
    turns_before turns (stopped (n - turns) machine)
    ≡ continued (turns + 1) (hit_of machine) (stopped (n - (turns + 1)) (turn machine))
unfolding stopped turns_before
before_next n turns machine more = let left : n - turns ≡ suc (n - (turns + 1)) = omega arith in rw left (grind arith)

-- no turn is left
pub before_end : (n turns : ℕ) (machine : Machine) → n ≤ turns → turns ≤ n →
    turns_before turns (stopped (n - turns) machine) ≡ record { turns = turns; hit = None }
unfolding stopped turns_before
before_end n turns machine none within = let left : n - turns ≡ 0 = omega arith in rw left (grind arith)

-- a run of fewer turns, and the turns after it
pub run_in_parts : (first n : ℕ) (machine : Machine) → first ≤ n →
    stopped n machine ≡ continued (stopped first machine).turns
    (stopped first machine).hit (stopped (n - first) (turned first machine))
unfolding stopped turns_before
run_in_parts zero n machine within = before_start n machine
run_in_parts (suc first) zero machine within = absurd (omega arith)
run_in_parts (suc first) (suc n) machine within =
    grind (arith, turned-first first machine, run_in_parts first n (turn machine))

-- a run of fewer turns after other turns
pub part_before : (n turns : ℕ) (machine : Machine) (part : Stopped) → part ≡ stopped part.turns machine → part.turns ≤ n - turns →
    turns_before turns (stopped (n - turns) machine)
    ≡ continued (turns + part.turns) part.hit (stopped (n - (turns + part.turns)) (turned part.turns machine))
unfolding turns_before
part_before n turns machine part is within =
    let left : n - turns - part.turns ≡ n - (turns + part.turns) = omega arith in
    let parts = rw (← is, left) at (run_in_parts part.turns (n - turns) machine within) in rw parts (grind arith)

-- turns leave the watches
pub watches_kept : (turns : ℕ) (machine : Machine) → (turned turns machine).watches ≡ machine.watches
watches_kept zero machine = refl
watches_kept (suc turns) machine = turn-watches (turned turns machine) ∙ watches_kept turns machine

-- turns are actions that are performed again and again
pub turns_are_acts : (turns : ℕ) (v : SessionValue Machine Action) → after_turns turns v ≡ after_acts turns Turn v
unfolding after_turns after_acts
turns_are_acts zero v = refl
turns_are_acts (suc turns) v = ap (λ v. after_act v Turn) (turns_are_acts turns v)

pub after_turns_add : (first turns : ℕ) (v : SessionValue Machine Action) →
    after_turns turns (after_turns first v) ≡ after_turns (first + turns) v
unfolding after_turns
after_turns_add first zero v = grind arith
after_turns_add first (suc turns) v = let more : first + suc turns ≡ suc (first + turns) = omega arith in
    rw more (ap (λ v. after_act v Turn) (after_turns_add first turns v))

-- before the first turn
pub after_turns_none : (v : SessionValue Machine Action) → after_turns 0 v ≡ v
unfolding after_turns
after_turns_none v = refl

-- the search for a change, at watched place i
pub first_step : (old new : Machine) (watches : List Watched) (i : ℕ) → i < length watches →
    first_change old new (drop i watches) ≡ first_change old new (get_or watches i (Cell 0 0) ∷ drop (i + 1) watches)
first_step old new watches i within = at_drop_more (first_change old new) watches i (Cell 0 0) within

-- an undo record has the number before its action
pub record_was : (back : RigRecord) (m : Machine) (place : Place) → FitsRecord back m →
    number (before back m) place ≡ unwrap_or (lookup (record_pairs back) place) (number m place)
record_was back m place fits = number-over m.setup.central_words m (record_pairs back) place fits.shaped fits.places

-- an action whose record has no watched place changed none
pub none_changed : (m : Machine) (back : RigRecord) (Watches : Place → Type 0) (watches : List Watched) → FitsRecord back m →
    ((p : Place) → Watches p → lookup (record_pairs back) p ≡ None) → AllByRecursion Watches (map watched_place watches) →
    first_change (before back m) m watches ≡ None
none_changed m back Watches [] fits none all = refl
none_changed m back Watches (w ∷ ws) fits none all =
    let same = rw (none (watched_place w) all.0) at (record_was back m (watched_place w) fits) in
    grind (arith, nat_tests, same, none_changed m back Watches ws fits none all.1)

-- turns whose records have no marked place
pub unmarked_turns : (marks : Marks) (n turns : ℕ) (machine : Machine) →
    turns ≤ n → AreUnmarked rules marks_of marks Turn turns machine →
    AreCovered marks_of marks (map watched_place (watches_of machine)) →
    stopped n machine ≡ turns_before turns (stopped (n - turns) (turned turns machine))
unmarked_turns marks n zero machine within none covered = before_start n machine
unmarked_turns marks n (suc turns) machine within none covered =
    let before = unmarked_turns marks n turns machine (omega arith) (λ k less. none k (omega arith)) covered in
    let s = turned turns machine in
    let (back, fits, led_back, unmarked) = rw add-one at (none turns (omega arith)) in
    let same : watches_of s ≡ watches_of machine = grind (arith, watches_kept turns machine) in
    let Covered = λ (p : Place). covers marks_of marks p ≡ true in
    let all = recursion_from_All Covered (map watched_place (watches_of s)) (rw same covered) in
    let hit = rw led_back at (none_changed (turn s) back Covered (watches_of s) fits unmarked all) in
    grind (arith, before, before_next n turns s, hit)

-- the last of some turns changed a watched number, or no turn did
pub last_turn : (marks : Marks) (turns : ℕ) (machine : Machine) → AreUnmarked rules marks_of marks Turn turns machine →
    AreCovered marks_of marks (map watched_place (watches_of machine)) →
    stopped (turns + 1) machine ≡ record { turns = turns + 1; hit = hit_of (turned turns machine) }
unfolding turns_before stopped
last_turn marks turns machine none covered =
    let unmarked = unmarked_turns marks (turns + 1) turns machine (omega arith) none covered in
    grind (arith, unmarked, before_next (turns + 1) turns (turned turns machine))

-- the change that the last of some turns made
pub last_hit : (turns : ℕ) (old new : Machine) (v : SessionValue Machine Action) (hit : Option Hit) →
    old ≡ replay rules v.start v.standing → new ≡ turned (turns + 1) old →
    hit ≡ first_change (replay rules (after_acts turns Turn v).start (after_acts turns Turn v).standing) new (watches_of new) →
    hit ≡ hit_of (turned turns old)
last_hit turns old new v hit replayed last found =
    grind (arith, machine_after_more rules turns Turn old, acts_replayed rules turns Turn v, turn-watches (turned turns old))

-- a run of one turn
pub stopped_once : (machine : Machine) → stopped 1 machine ≡ record { turns = 1; hit = hit_of machine }
unfolding turns_before stopped
stopped_once machine = grind (arith, before_next 1 0 machine (omega arith))

-- some actions can be undone
if_kept : (kept : ℕ) (changed : Bool) → 1 ≤ kept → (if kept == 0 then false else changed) ≡ changed
if_kept zero changed some = absurd (omega (arith, some))
if_kept (suc kept) changed some = rw (eqb-suc-zero kept) refl

-- whether the newest action, a turn, changed a watched number
pub newest_turn : (v : SessionValue Machine Action) → 1 ≤ v.capacity →
    newest_changed (after_act v Turn) ≡ is_some (hit_of (replay rules v.start v.standing))
unfolding newest_changed
newest_turn v some =
    let s = replay rules v.start v.standing in
    let same : watches_of (turn s) ≡ watches_of s = grind (arith, turn-watches s) in
    if_kept (min v.capacity (v.kept + 1)) (is_some (first_change s (turn s) (watches_of (turn s)))) (grind (arith, some))
    ∙ ap (λ watches. is_some (first_change s (turn s) watches)) same

-- nothing is watched
pub none_watched : (old new : Machine) (watches : List Watched) → length watches ≡ 0 → first_change old new watches ≡ None
none_watched old new [] empty = refl
none_watched old new (watched ∷ others) empty = absurd (omega (arith, empty))

-- what one turn needs
pub ruleset one_turn_acts = (none_watched, turn-watches)

-- what a search for a change needs
pub ruleset changes = (first_step, record_was)

-- what a run needs
pub ruleset runs = (before_start, before_end, after_turns_none, turn-watches, machine_at)
