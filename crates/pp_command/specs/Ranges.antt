-- The ranges of a request's numbers, and what separates them from the ranges of a machine.
use Rattle.std.specs.Prelude.{ℕ, ◌<◌, ◌≤◌, IsTrue, length}
use Rattle.pp_actions.specs.Admitting.{is_in_range, is_watchable}
use Rattle.pp_machine.specs.Ranges.{processor_count, cell_count}
use Rattle.pp_actions.specs.declared.action.Action.{Action}
use Rattle.pp_actions.specs.declared.action.Action.TheVariants as action
use Rattle.pp_actions.specs.declared.watched.Watched.{Watched}
use Rattle.pp_actions.specs.declared.watched.Watched.TheVariants as watched
use Rattle.pp_command.specs.declared.request.Request.{Request}
use Rattle.pp_command.specs.declared.request.Request.TheVariants.{Act, Step, Back, Forward, DumpCells, DumpProcessor, DumpCentral}

-- the words of the largest central memory: a line may name any of them
abbrev pub most_central_words : ℕ
most_central_words = 0o400000

-- a place that a machine with the largest central memory has
abbrev pub IsPlaceInRange : Watched → Type 0
IsPlaceInRange w = IsTrue (is_watchable most_central_words w)

-- a line sets at most eight cells, and it cannot ask for a turn
abbrev pub CanBeAsked : Action → Type 0
CanBeAsked action.Turn = ⊥
CanBeAsked (action.SetCells n a values) = length values ≤ 8
CanBeAsked _ = Unit {0}

-- an action that a line may ask for: its numbers are in range for a machine with the largest central memory
abbrev pub IsActionInRange : Action → Type 0
IsActionInRange action = CanBeAsked action × IsTrue (is_in_range most_central_words action)

-- a request whose numbers are all in range
abbrev pub IsInRange : Request → Type 0
IsInRange (Act a) = IsActionInRange a
IsInRange (Step turns) = (1 ≤ turns) × (turns ≤ 0o1000000)
IsInRange (Back actions) = (1 ≤ actions) × (actions ≤ 0o1000000)
IsInRange (Forward actions) = (1 ≤ actions) × (actions ≤ 0o1000000)
IsInRange (DumpCells n first last) = (n < processor_count) × (first ≤ last) × (last < cell_count)
IsInRange (DumpProcessor n) = n < processor_count
IsInRange (DumpCentral first last) = (first ≤ last) × (last < most_central_words)
IsInRange _ = Unit {0}

-- ---- what a line may ask for and a machine may not have, and the reverse

-- the central word of a place is below the size
abbrev pub IsPlaceWithin : ℕ → Watched → Type 0
IsPlaceWithin size (watched.Central a) = a < size
IsPlaceWithin size _ = Unit {0}

-- The central word that an action names, if any, is below the given size. A line may name one of the largest size.
abbrev pub IsWithin : ℕ → Action → Type 0
IsWithin size (action.SetWord a v) = a < size
IsWithin size (action.Watch w) = IsPlaceWithin size w
IsWithin size (action.Unwatch w) = IsPlaceWithin size w
IsWithin size _ = Unit {0}
