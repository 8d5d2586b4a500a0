-- What is written to stop watching a place.
use Rattle.std.specs.Prelude.{ℕ, ◌+◌, ◌==◌, List, [], ◌∷◌, Option, Some, None, drop, position, if◌then◌else◌}
use Rattle.pp_machine.specs.Prelude.{Machine, Writes}
use Rattle.pp_machine.specs.declared.place.Place.{Place}
use Rattle.pp_machine.specs.declared.place.Place.TheVariants.{WatchEntry}
use Rattle.pp_actions.specs.WatchCodes.{watch_code}
use Rattle.pp_actions.specs.WriteLists.{writes_from}
use Rattle.pp_actions.specs.declared.watched.Watched.{Watched}

-- The codes after a removed one move up, to the last that is not zero, and a zero follows them. [P28]
abbrev pub moved_up : List ℕ → List ℕ
moved_up [] = 0 ∷ []
moved_up (code ∷ codes) = if code == 0 then 0 ∷ [] else code ∷ moved_up codes

-- What is written to remove entry i: the entries from i on. [P28]
abbrev pub without_entry : List ℕ → Option ℕ → Writes Place
without_entry entries None = []
without_entry entries (Some i) = writes_from WatchEntry i (moved_up (drop (i + 1) entries))

-- What is written to stop watching a place. [P28]
abbrev pub unwatch_writes : Machine → Watched → Writes Place
unwatch_writes s watched = without_entry s.watches (position (λ code. code == watch_code watched) s.watches)
