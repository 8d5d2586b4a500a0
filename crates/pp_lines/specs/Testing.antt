-- A full tray.
use Rattle.std.specs.Prelude.{◌≡◌, ℕ, ◌<◌, List, length}
use Rattle.pp_lines.specs.declared.testing.TheConstants.{ROOM}

-- there are bytes to write, and no room for any
abbrev pub IsFull : List ℕ → List ℕ → Type 0
IsFull text more = (length text ≡ ROOM) × (0 < length more)
