-- Steps of a search, forward and back.
use Rattle.std.proofs.Common.{◌≡◌, ◌∙◌, ℕ, zero, suc, ◌+◌, ◌-◌, ◌<◌, ◌≤◌, ◌∷◌, [], Bool, false, true, List, Some, None, ap, arith}
use Rattle.std.proofs.Common.{drop, refl, replicate, sym}
use Rattle.std.proofs.lemmas.List.{drop-drop}
use Rattle.pp_actions.specs.declared.action.Action.{Action}
use Rattle.pp_actions.specs.declared.action.Action.TheVariants.{Turn}
use Rattle.pp_history.proofs.Repeats.{acts_replayed}
use Rattle.pp_history.specs.Contents.{Contents}
use Rattle.pp_history.specs.Repeating.{after_acts}
use Rattle.pp_history.specs.SessionLaws.{machine_at}
use Rattle.pp_history.specs.SessionValue.{AreNewest, IsAt, SessionValue, after_back, replay}
use Rattle.pp_machine.specs.Machine.{Machine}
use Rattle.pp_machine.specs.NumberLaws.{setup-over}
use Rattle.pp_rig.proofs.Overwritten.{next_by_writes}
use Rattle.pp_rig.specs.Inner.ActionRecords.{before, old_values_of, record_pairs, writes}
use Rattle.pp_rig.specs.Rules.{rules}
use Rattle.pp_rig.specs.Stopping.{turned}
use Rattle.pp_rig.specs.Turn.{turn}
use Rattle.pp_rig.specs.declared.rig.RigRecord.{RigRecord}
use Rattle.pp_search.proofs.Least.{least_end, least_found, least_passed, least_past}
use Rattle.pp_search.specs.Condition.{comes_in, comes_to_hold}
use Rattle.pp_search.specs.Search.{came_in, came_in_newest, comes_in_turn, first_turn, last_before, least}
use Rattle.pp_search.specs.declared.condition.Condition.{Condition}

-- actions leave the setup
pub setup_kept : (start : Machine) (actions : List Action) → (replay rules start actions).setup ≡ start.setup
setup_kept start [] = refl
setup_kept start (action ∷ earlier) =
    let s = replay rules start earlier in
    ap (λ s. s.setup) (next_by_writes s action) ∙ setup-over s (writes s action) ∙ setup_kept start earlier

pub size_kept : (turns : ℕ) (s new : Machine) → new ≡ turned turns s → new.setup.central_words ≡ s.setup.central_words
size_kept turns s new is = ap (λ s. s.setup.central_words) is ∙ ap (λ setup. setup.central_words)
    (setup_kept s (replicate turns Turn))

-- turns after turns
pub turned_add : (first turns : ℕ) (s : Machine) → turned turns (turned first s) ≡ turned (first + turns) s
turned_add first zero s = let all : first + 0 ≡ first = omega arith in rw all refl
turned_add first (suc turns) s =
    let more : first + suc turns ≡ suc (first + turns) = omega arith in rw more (ap turn (turned_add first turns s))

pub in_later_turn : (condition : Condition) (s : Machine) (first k : ℕ) → 1 ≤ k →
    comes_in_turn condition (turned first s) k ≡ comes_in_turn condition s (first + k)
in_later_turn condition s first k some =
    let earlier : first + (k - 1) ≡ first + k - 1 = omega (arith, some) in
    rw (turned_add first (k - 1) s, earlier) refl

-- a search that has passed some turns
unfoldable pub Passed : Condition → ℕ → Machine → ℕ → Type 0
Passed condition most s turns = first_turn condition most s ≡ least (comes_in_turn condition s) (turns + 1) (most - turns)

pub passed_none : (condition : Condition) (most : ℕ) (s : Machine) → Passed condition most s 0
unfolding first_turn Passed
passed_none condition most s = let all : most - 0 ≡ most = omega arith in rw all refl

-- where the search is, a later turn is one from the start
later_turn : (condition : Condition) (s now : Machine) (turns k : ℕ) → now ≡ turned turns s → 1 ≤ k →
    comes_in_turn condition s (turns + k) ≡ comes_in_turn condition now k
later_turn condition s now turns k here some =
    sym (in_later_turn condition s turns k some) ∙ ap (λ m. comes_in_turn condition m k) (sym here)

-- of the next turns none is found before the last
passed_part : (condition : Condition) (most turns more : ℕ) (s now : Machine) → now ≡ turned turns s → 1 ≤ more →
    more ≤ most - turns → Passed condition most s turns → ((k : ℕ) → 1 ≤ k → k < more → comes_in_turn condition now k ≡ false) →
    first_turn condition most s ≡ least (comes_in_turn condition s) (turns + more) (most - (turns + more) + 1)
unfolding Passed
passed_part condition most turns more s now here some within passed earlier =
    let is = comes_in_turn condition s in
    let none = λ (k : ℕ) (least : turns + 1 ≤ k) (less : k < turns + 1 + (more - 1)).
    (let at : turns + (k - turns) ≡ k = omega (arith, least) in
    sym (ap is at) ∙ later_turn condition s now turns (k - turns) here (omega (arith, least)) ∙ earlier (k - turns)
    (omega (arith, least)) (omega (arith, less, some))) in
    let from : turns + 1 + (more - 1) ≡ turns + more = omega (arith, some) in
    let left : most - turns - (more - 1) ≡ most - (turns + more) + 1 = omega (arith, some, within) in
    passed ∙ rw (from, left) at (least_passed is (turns + 1) (more - 1) (most - turns) (omega (arith, within)) none)

-- it comes to hold in the last
pub found_part : (condition : Condition) (most turns more : ℕ) (s now : Machine) (found : Bool) → now ≡ turned turns s → 1 ≤ more →
    more ≤ most - turns → Passed condition most s turns → ((k : ℕ) → 1 ≤ k → k < more → comes_in_turn condition now k ≡ false) →
    found ≡ comes_in_turn condition now more → found ≡ true → first_turn condition most s ≡ Some (turns + more)
found_part condition most turns more s now found here some within passed earlier is holds =
    let last = later_turn condition s now turns more here some ∙ sym is ∙ holds in
    passed_part condition most turns more s now here some within passed earlier
    ∙ least_found (comes_in_turn condition s) (turns + more) (most - (turns + more) + 1) (omega arith) last

-- or it does not, and the turns are passed
pub passed_more : (condition : Condition) (most turns more : ℕ) (s now : Machine) (found : Bool) → now ≡ turned turns s → 1 ≤ more →
    more ≤ most - turns → Passed condition most s turns → ((k : ℕ) → 1 ≤ k → k < more → comes_in_turn condition now k ≡ false) →
    found ≡ comes_in_turn condition now more → found ≡ false → Passed condition most s (turns + more)
unfolding Passed
passed_more condition most turns more s now found here some within passed earlier is none =
    let last = later_turn condition s now turns more here some ∙ sym is ∙ none in
    let left : most - (turns + more) + 1 ≡ suc (most - (turns + more)) = omega arith in
    passed_part condition most turns more s now here some within passed earlier
    ∙ rw left (least_past (comes_in_turn condition s) (turns + more) (most - (turns + more)) last)

-- no turn is left
pub passed_all : (condition : Condition) (most turns : ℕ) (s : Machine) → most ≤ turns → Passed condition most s turns →
    first_turn condition most s ≡ None
unfolding Passed
passed_all condition most turns s past passed = passed ∙ least_end (comes_in_turn condition s) (turns + 1) (most - turns)
    (omega (arith, past))

-- back, one action after another
pub in_earlier_action : (condition : Condition) (v : SessionValue Machine Action) (undone : ℕ) →
    came_in condition (after_back v undone) 1 ≡ came_in condition v (undone + 1)
in_earlier_action condition v undone =
    rw (drop-drop 1 undone v.standing) refl

-- a search that has passed some actions
unfoldable pub PassedBack : Condition → SessionValue Machine Action → ℕ → Type 0
PassedBack condition v undone = last_before condition v ≡ least (came_in condition v) (undone + 1) (v.kept - 1 - undone)

pub back_none : (condition : Condition) (v : SessionValue Machine Action) → PassedBack condition v 0
unfolding last_before PassedBack
back_none condition v = let all : v.kept - 1 - 0 ≡ v.kept - 1 = omega arith in rw all refl

pub back_found : (condition : Condition) (v : SessionValue Machine Action) (undone : ℕ) (found : Bool) → undone + 1 < v.kept →
    PassedBack condition v undone → found ≡ came_in condition (after_back v undone) 1 → found ≡ true →
    last_before condition v ≡ Some (undone + 1)
unfolding PassedBack
back_found condition v undone found less passed is holds =
    passed ∙ least_found (came_in condition v) (undone + 1) (v.kept - 1 - undone) (omega (arith, less))
    (sym (in_earlier_action condition v undone) ∙ sym is ∙ holds)

pub back_passed : (condition : Condition) (v : SessionValue Machine Action) (undone : ℕ) (found : Bool) → undone + 1 < v.kept →
    PassedBack condition v undone → found ≡ came_in condition (after_back v undone) 1 → found ≡ false →
    PassedBack condition v (undone + 1)
unfolding PassedBack
back_passed condition v undone found less passed is none =
    let here = sym (in_earlier_action condition v undone) ∙ sym is ∙ none in
    let left : v.kept - 1 - undone ≡ suc (v.kept - 1 - (undone + 1)) = omega (arith, less) in
    passed ∙ rw left (least_past (came_in condition v) (undone + 1) (v.kept - 1 - (undone + 1)) here)

pub back_all : (condition : Condition) (v : SessionValue Machine Action) (undone : ℕ) → v.kept ≤ undone + 1 →
    PassedBack condition v undone → last_before condition v ≡ None
unfolding PassedBack
back_all condition v undone past passed = passed ∙ least_end (came_in condition v) (undone + 1) (v.kept - 1 - undone)
    (omega (arith, past))

-- the same start, so the same places
pub size_at : (old new : Contents Machine Action RigRecord) (v w : SessionValue Machine Action) → IsAt rules old v →
    IsAt rules new w → w.start ≡ v.start → new.machine.setup.central_words ≡ old.machine.setup.central_words
size_at old new v w at then start =
    let size = λ (s : Machine). s.setup.central_words in
    let words = λ (actions : List Action) (s : Machine). ap (λ setup. setup.central_words) (setup_kept s actions) in
    ap size (machine_at rules new w then) ∙ words w.standing w.start ∙ ap size start ∙ sym (words v.standing v.start) ∙ sym
    (ap size (machine_at rules old v at))

-- so many turns are the newest actions
acts_capacity : (turns : ℕ) (v : SessionValue Machine Action) → (after_acts turns Turn v).capacity ≡ v.capacity
unfolding after_acts
acts_capacity zero v = refl
acts_capacity (suc turns) v = acts_capacity turns v

pub some_kept : (turns : ℕ) (v : SessionValue Machine Action) → 1 ≤ turns → 1 ≤ v.capacity → 1 ≤ (after_acts turns Turn v).kept
unfolding after_acts
some_kept zero v some room = absurd (omega (arith, some))
some_kept (suc turns) v some room = grind (arith, acts_capacity turns v, room)

pub last_comes : (condition : Condition) (turns : ℕ) (v : SessionValue Machine Action) (s : Machine) (found : Bool) → 1 ≤ turns →
    s ≡ replay rules v.start v.standing →
    found ≡ came_in_newest condition (after_acts turns Turn v).start (after_acts turns Turn v).standing →
    found ≡ comes_in_turn condition s turns
unfolding after_acts
last_comes condition zero v s found some is found_is = absurd (omega (arith, some))
last_comes condition (suc turns) v s found some is found_is =
    let one : suc turns - 1 ≡ turns = omega arith in
    found_is ∙ ap (λ m. comes_in condition m Turn) (acts_replayed rules turns Turn v ∙ ap (turned turns) (sym is)) ∙ rw one refl

-- the newest action, by its undo record
pub newest_comes : (condition : Condition) (start : Machine) (standing : List Action) (back : RigRecord) (now : Machine)
    (found : Bool) →
    now ≡ replay rules start standing → before back now ≡ replay rules start (drop 1 standing) →
    AreNewest rules start standing (record_pairs back) → found ≡ comes_to_hold condition (before back now) (record_pairs back) now →
    found ≡ came_in_newest condition start standing
newest_comes condition start [] back now found is led newest found_is = absurd newest
newest_comes condition start (action ∷ earlier) back now found is led newest found_is =
    found_is ∙ ap (λ m. comes_to_hold condition m (record_pairs back) now) led
    ∙ ap (λ olds. comes_to_hold condition (replay rules start earlier) olds now) newest
    ∙ ap (λ m. comes_to_hold condition (replay rules start earlier) (old_values_of (replay rules start earlier) action) m) is

pub back_zero : (v : SessionValue Machine Action) → after_back v 0 ≡ v
back_zero v = grind arith
