-- A run of turns that stops at the first change of a watched number.
use Rattle.std.specs.Prelude.{◌≡◌, ℕ, Bool, drop, false, is_some, zero, suc, ◌+◌, ◌<◌, ◌≤◌, ◌==◌, List, [], ◌∷◌, Option, Some, None, replicate, if◌then◌else◌}
use Rattle.pp_history.specs.SessionValue.{SessionValue, after_act, replay}
use Rattle.pp_machine.specs.Machine.{Machine, number}
use Rattle.pp_rig.specs.Rules.{rules}
use Rattle.pp_rig.specs.Turn.{turn}
use Rattle.pp_actions.specs.Watches.{watched_place, watches_of}
use Rattle.pp_actions.specs.declared.watched.Watched.{Watched}
use Rattle.pp_actions.specs.declared.action.Action.{Action}
use Rattle.pp_actions.specs.declared.action.Action.TheVariants.{Turn}
use Rattle.pp_rig.specs.declared.stopping.Hit.{Hit}
use Rattle.pp_rig.specs.declared.stopping.Stopped.{Stopped}

-- the first watched place whose number is another in the later machine
abbrev pub first_change : Machine → Machine → List Watched → Option Hit
first_change old new [] = None
first_change old new (watched ∷ others) =
    if number new (watched_place watched) == number old (watched_place watched) then first_change old new others
    else Some (record { place = watched; was = number old (watched_place watched); now = number new (watched_place watched) })

-- the change that a turn makes at the watched places
abbrev pub hit_of : Machine → Option Hit
hit_of s = first_change s (turn s) (watches_of s)

-- whether the newest action that can be undone changed the number of a place that is watched now
unfoldable pub newest_changed : SessionValue Machine Action → Bool
newest_changed v =
    let now = replay rules v.start v.standing in
    if v.kept == 0 then false else is_some (first_change (replay rules v.start (drop 1 v.standing)) now (watches_of now))

-- a run ends with this hit, or continues with the rest: then it has one more turn
abbrev pub hit_or : Option Hit → Stopped → Stopped
hit_or None rest = record { turns = suc rest.turns; hit = rest.hit }
hit_or (Some hit) rest = record { turns = 1; hit = Some hit }

-- a run of at most this many turns, which ends with the first that changes a watched number
unfoldable pub stopped : ℕ → Machine → Stopped
stopped zero s = record { turns = 0; hit = None }
stopped (suc most) s = hit_or (first_change s (turn s) (watches_of s)) (stopped most (turn s))

-- after this many turns
unfoldable pub after_turns : ℕ → SessionValue Machine Action → SessionValue Machine Action
after_turns zero v = v
after_turns (suc turns) v = after_act (after_turns turns v) Turn

-- the machine after this many turns
abbrev pub turned : ℕ → Machine → Machine
turned turns s = replay rules s (replicate turns Turn)

-- the shortest run, of at most this many turns, whose last turn changed a watched number, or else all the turns
pub record IsShortest (most : ℕ) (s : Machine) (done : Stopped) : Type 0 where
  pub within : done.turns ≤ most
  -- no turn before the last changed a watched number
  pub earlier : (turns : ℕ) → turns + 1 < done.turns → hit_of (turned turns s) ≡ None
  -- the last turn made the change
  pub hit : (hit : Hit) → done.hit ≡ Some hit → (turns : ℕ) × (done.turns ≡ turns + 1) × (hit_of (turned turns s) ≡ Some hit)
  -- no turn changed a watched number
  pub none : done.hit ≡ None → (done.turns ≡ most) × ((turns : ℕ) → turns < most → hit_of (turned turns s) ≡ None)
