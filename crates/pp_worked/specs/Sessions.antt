-- Rows of a session of the starting machine.
use Rattle.std.specs.Prelude.{ℕ, List, [], ◌∷◌, Option, fold}
use Rattle.pp_history.specs.Change.{change}
use Rattle.pp_history.specs.SessionValue.{SessionValue, after_act, fresh, replay}
use Rattle.pp_machine.specs.Machine.{Machine}
use Rattle.pp_machine.specs.declared.place.Place.{Place}
use Rattle.pp_rig.specs.Rules.{rules}
use Rattle.pp_actions.specs.declared.action.Action.{Action}
use Rattle.pp_actions.specs.declared.action.Action.TheVariants.{SetCells, SetP, Watch}
use Rattle.pp_rig.specs.declared.stopping.Hit.{Hit}
use Rattle.pp_actions.specs.declared.watched.Watched.{Watched}
use Rattle.pp_actions.specs.declared.watched.Watched.TheVariants.{Cell}
use Rattle.pp_worked.specs.Machines.{at_rest}

-- the session after these actions, the first one first, with room for this many records
abbrev pub session : ℕ → List Action → SessionValue Machine Action
session room actions = fold after_act (fresh at_rest room) actions

-- the machine of a session
abbrev pub machine : SessionValue Machine Action → Machine
machine v = replay rules v.start v.standing

-- the number of actions that BACK W undoes, if these places are watched
abbrev pub back_w : SessionValue Machine Action → List Place → Option ℕ
back_w v places = change rules v places

-- 1405 2400 3450 at 0100 of processor 00, which store 5 in cell 0050, and a watch on that cell
abbrev pub storing : Machine
storing = machine (session 0o100 (SetCells 0 0o100 (0o1405 ∷ 0o2400 ∷ 0o3450 ∷ []) ∷ SetP 0 0o100 ∷ Watch (Cell 0 0o50) ∷ []))

-- a watched place changed from one number to another
abbrev pub seen_to_change : Watched → ℕ → ℕ → Hit
seen_to_change place was now = record { place = place; was = was; now = now }
