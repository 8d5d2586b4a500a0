-- The newest write, action by action.
use Rattle.std.proofs.Common.{◌≡◌, ◌∙◌, ◌+◌, ◌-◌, ◌<◌, ◌≤◌, ℕ, suc, Bool, false, true}
use Rattle.std.proofs.Common.{List, [], ◌∷◌, Some, None, ap, arith, refl, sym}
use Rattle.std.specs.Prelude.{IfSome, Option, unwrap_or}
use Rattle.pp_actions.specs.declared.action.Action.{Action}
use Rattle.pp_history.specs.SessionValue.{AreNewest, SessionValue, after_back}
use Rattle.pp_machine.specs.Machine.{Machine}
use Rattle.pp_machine.specs.Prelude.{Writes}
use Rattle.pp_machine.specs.declared.place.Place.{Place}
use Rattle.pp_rig.specs.Rules.{rules}
use Rattle.pp_search.proofs.Least.{least_end, least_found, least_past}
use Rattle.pp_search.specs.Condition.{is_of_any, is_written}
use Rattle.pp_search.specs.Search.{last_write, least, wrote_in, wrote_newest}

-- the newest action, by its undo record
pub newest_wrote : (first count : ℕ) (start : Machine) (standing : List Action) (pairs : Writes Place) (found : Bool) →
    AreNewest rules start standing pairs → found ≡ is_of_any (is_written pairs) first count →
    found ≡ wrote_newest first count start standing
newest_wrote first count start [] pairs found newest is = absurd newest
newest_wrote first count start (action ∷ earlier) pairs found newest is =
    is ∙ ap (λ pairs. is_of_any (is_written pairs) first count) newest

-- a search that has passed some actions
unfoldable pub PassedWrites : ℕ → ℕ → SessionValue Machine Action → ℕ → Type 0
PassedWrites first count v undone = last_write first count v ≡ least (wrote_in first count v) undone (v.kept - undone)

pub write_none : (first count : ℕ) (v : SessionValue Machine Action) → PassedWrites first count v 0
unfolding last_write PassedWrites
write_none first count v = let all : v.kept - 0 ≡ v.kept = omega arith in rw all refl

pub write_found : (first count : ℕ) (v : SessionValue Machine Action) (undone : ℕ) (found : Bool) → undone < v.kept →
    PassedWrites first count v undone →
    found ≡ wrote_newest first count (after_back v undone).start (after_back v undone).standing → found ≡ true →
    last_write first count v ≡ Some undone
unfolding PassedWrites
write_found first count v undone found less passed is holds =
    passed ∙ least_found (wrote_in first count v) undone (v.kept - undone) (omega (arith, less)) (sym is ∙ holds)

pub write_passed : (first count : ℕ) (v : SessionValue Machine Action) (undone : ℕ) (found : Bool) → undone < v.kept →
    PassedWrites first count v undone →
    found ≡ wrote_newest first count (after_back v undone).start (after_back v undone).standing → found ≡ false →
    PassedWrites first count v (undone + 1)
unfolding PassedWrites
write_passed first count v undone found less passed is none =
    let left : v.kept - undone ≡ suc (v.kept - (undone + 1)) = omega (arith, less) in
    passed ∙ rw left (least_past (wrote_in first count v) undone (v.kept - (undone + 1)) (sym is ∙ none))

pub write_all : (first count : ℕ) (v : SessionValue Machine Action) (undone : ℕ) → v.kept ≤ undone →
    PassedWrites first count v undone → last_write first count v ≡ None
unfolding PassedWrites
write_all first count v undone past passed =
    passed ∙ least_end (wrote_in first count v) undone (v.kept - undone) (omega (arith, past))

-- no more are undone than are kept
pub undone_within : (found : Option ℕ) (kept : ℕ) → IfSome found (λ k. k < kept) → unwrap_or found kept ≤ kept
undone_within None kept less = omega arith
undone_within (Some k) kept less = omega (arith, less)
